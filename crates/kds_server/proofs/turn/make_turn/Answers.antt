use Rattle.std.proofs.Common.{◌++◌, ◌∷◌, [], inl, inr, refl}
use Rattle.kds_session.specs.Standing.{traffic}
use Rattle.kds_server.proofs.Turning.{taken_more, taken_as}
use Rattle.kds_server.proofs.Ends.{tells_so_far, tells_asked, tells_told}
use Rattle.kds_server.proofs.turn.make_turn.Goals as goal

pub returns-in-Ok-absorb-clause-goes_on : goal.returns-in-Ok-absorb-clause-goes_on
returns-in-Ok-absorb-clause-goes_on g c = λ first all left is_before start held is_given is_told taken r.
    let command = c.args.what in
    let a = c.in-Ok.answer in record {
      given = is_given ++ command ∷ [];
      told = is_told ++ a ∷ [];
      reads = record {
        fed = r.fed;
        sent = r.sent;
        taken = r.taken;
        stands = c.in-Ok-absorb.ensures.stands (traffic r.fed (is_given ++ command ∷ []) is_told r.sent) r.stands;
        written =
            r.written;
      };
      taken = taken_more _ _ is_before _ _ c.now-at.result taken c.now-at.ensures
          (c.in-Ok.ensures.made first taken.moments is_given is_told taken.made);
    }

pub returns-in-Ok-clause-err : goal.returns-in-Ok-clause-err
returns-in-Ok-clause-err g c = λ first all left is_before start held is_given is_told taken r.
    let command = c.args.what in
    let a = c.in-Ok.answer in record {
      given = is_given ++ command ∷ [];
      told = is_told ++ a ∷ [];
      between = g.C.Clock.moments c.now-at.new.self;
      taken = taken_more _ _ is_before _ _ c.now-at.result taken c.now-at.ensures
          (c.in-Ok.ensures.made first taken.moments is_given is_told taken.made);
      asked = inl refl;
      tells = tells_told all (is_given ++ command ∷ []) is_told a start held
          (tells_so_far c.first_part.ensures all left c.args.session.now (is_given ++ command ∷ []) is_told start held
          r);
    }

pub returns-clause-err : goal.returns-clause-err
returns-clause-err g c = λ first all left is_before start held is_given is_told taken r.
    let command = c.args.what in record {
      given = is_given;
      told = is_told;
      between = g.C.Clock.moments c.args.clock.now;
      taken = taken_as _ _ is_before _ taken (c.in-Err.ensures.kept first taken.moments is_given is_told taken.made);
      asked = inr (c.now-at.result, c.now-at.ensures);
      tells = tells_asked all is_given is_told command start held
          (tells_so_far c.first_part.ensures all left c.args.session.now (is_given ++ command ∷ []) is_told start held
          r);
    }
