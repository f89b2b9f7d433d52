-- ListStreams is answered with the names of the service's streams.
use Rattle.std.proofs.Common.{◌≡◌, ℕ, Bool, List, [], ◌∷◌, filter, map, take, Option, refl, sym, ap, ◌∙◌}
use Rattle.std.specs.Prelude.{Ok}
use Rattle.kds_defs.specs.declared.command.Command.TheVariants as command
use Rattle.kds_defs.specs.declared.reply.Reply.TheVariants as reply
use Rattle.kds_defs.specs.Journal.{Journal}
use Rattle.kds_defs.specs.Listings.{are_more, is_after_name, names_after, names_in_order}
use Rattle.kds_defs.specs.Streams.{name_of}
use Rattle.kds_stream.specs.Value.{StreamValue}
use Rattle.kds_service.proofs.Readings.{live_are}
use Rattle.kds_service.specs.Shown.{AreShown, LeadsTo, ServiceValue, ShowsAll, names_of, numbers_of, service}

named : (log : Journal) (vs : List StreamValue) → AreShown log vs → map (name_of log) (numbers_of vs) ≡ names_of vs
named log [] shown = refl
named log (v ∷ vs) shown = ap (λ n. n ∷ map (name_of log) (numbers_of vs)) shown.0.stored.named
    ∙ ap (λ ns. v.name ∷ ns) (named log vs shown.1)

after_are : (w : ServiceValue) (log : Journal) (after : Option (List ℕ)) → ShowsAll w log
    → names_after log after ≡ filter (is_after_name after) (names_in_order (names_of w.streams))
after_are w log after all =
    ap (λ ns. filter (is_after_name after) (names_in_order ns)) (ap (map (name_of log)) (live_are w log all)
    ∙ named log w.streams all.shown)

-- The answer has the first `limit` names after `after`, and says whether more follow.
pub streams_listed : (c : ℕ) (vs : List StreamValue) (after : Option (List ℕ)) (limit : ℕ) (names : List (List ℕ))
    (more : Bool) → names ≡ take limit (filter (is_after_name after) (names_in_order (names_of vs)))
    → more ≡ are_more limit (filter (is_after_name after) (names_in_order (names_of vs)))
    → LeadsTo c vs vs (command.Streams after limit) (Ok (reply.Streams names more))
streams_listed c vs after limit names more first rest = λ b n log actor all. (
  ap (λ ns. Ok (reply.Streams ns more)) first
      ∙ ap (λ m. Ok (reply.Streams (take limit (filter (is_after_name after) (names_in_order (names_of vs)))) m)) rest
      ∙ ap (λ ns. Ok (reply.Streams (take limit ns) (are_more limit ns)))
      (sym (after_are (service c b n vs) log after all)),
  all,
)
