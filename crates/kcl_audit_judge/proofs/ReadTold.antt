-- The verdict on a read's entry, from the model's tenure and its shard's records.
use Rattle.std.proofs.Common.{◌≡◌, ℕ, ◌-◌, Bool, true, false, List, [], ◌∷◌, map, slice_set, Option, Some, None, refl}
use Rattle.std.proofs.Common.{sym, ap, subst, ◌∙◌}
use Rattle.std.specs.Prelude.{◌&&◌, slice_get, Ok, Err, IfSome}
use Rattle.std.specs.Option.{option_map}
use Rattle.kds_defs.specs.declared.command.Command.TheVariants as command
use Rattle.kds_defs.specs.declared.entry.Entry.TheVariants as entry
use Rattle.kds_defs.specs.declared.limits.TheConstants.{BATCH_BYTES}
use Rattle.kds_defs.specs.declared.reply.Refusal.{Refusal}
use Rattle.kds_defs.specs.declared.reply.Reply.{Reply}
use Rattle.kds_defs.specs.declared.reply.Row.{Row}
use Rattle.kds_defs.specs.Decision.{Decision, Accepted}
use Rattle.kcl_laws.specs.ShownLines.{entry_line}
use Rattle.kds_defs.specs.Histories.{decide, lines_of}
use Rattle.kds_defs.specs.Journal.{Journal, Line, plain_line, with_lines}
use Rattle.kds_defs.specs.Leases.{TenureState, tenure}
use Rattle.kds_defs.specs.Legal.{reach_in, told}
use Rattle.kds_defs.specs.Listings.{are_none, ends_at, is_closed_at}
use Rattle.kds_defs.specs.declared.reply.Stored.{Stored}
use Rattle.kds_defs.specs.Records.{batch, beginning, left_among, numbers_of, position_after, stored}
use Rattle.kds_base.proofs.Facts.{is_itself}
use Rattle.kds_defs.proofs.Counted.{numbers_stored}
use Rattle.kcl_book.specs.declared.tenure.Tenure.{Tenure}
use Rattle.kcl_book.specs.Tenures.{TenureValue, tenure_at, with_read}
use Rattle.kcl_leases.proofs.TenureWrites.{read_at, read_gives}
use Rattle.kcl_leases.specs.Conditions.{own_tenure, reader_answer}
use Rattle.kcl_leases.specs.Standing.{KeepsShards, Leads, Stands, facing, kept, leases}
use Rattle.kcl_audit_streams.specs.declared.rule.Rule.TheVariants as rule
use Rattle.kcl_audit_streams.specs.Judging.{agrees}
use Rattle.kcl_audit_judge.specs.Judging.{reach_of}
use Rattle.kcl_audit_streams.specs.Standing.{IsStream, Shows, StreamValue, StreamsValue, floor_in, live_at, records_in}
use Rattle.kcl_audit_streams.specs.Standing.{stream_at}
use Rattle.kcl_audit_judge.specs.Standing.{Judges}
use Rattle.kcl_audit_streams.specs.Verdict.{judged, same_entry, same_flag, same_list}
use Rattle.kcl_audit_streams.proofs.BatchTold.{batch_is, ends_is}
use Rattle.kcl_audit_streams.proofs.Keys.{live_found, stream_found}
use Rattle.kcl_audit_streams.proofs.SameEntries.{flag_so, list_so}
use Rattle.kcl_audit_judge.proofs.LeaseLines.{judged_refused}

reach_same : (o : Option TenureState) → reach_in o ≡ reach_of (option_map kept o)
reach_same None = refl
reach_same (Some T) = refl

-- The model of `log` is `w`, `rs`, `ts`; by the entry the tenure `t` read `ns` from `position` on.
module _ (w : StreamsValue) (rs : List Row) (ts : List TenureValue) (actor t limit position : ℕ) (ended : Bool)
    (ns : List ℕ) (reach : position ≡ reach_of (tenure_at ts t))
    (log : Journal) (st : Stands (leases (facing w.clock (Shows w)) rs ts) log) where
  tells : told log (entry_line w.clock actor (entry.Read t limit ended ns)) (entry.Read t limit ended ns)
      ≡ decide log w.clock actor (command.Read t position limit)
  tells = ap (λ p. decide log w.clock actor (command.Read t p limit)) (reach_same (tenure log t)
      ∙ ap reach_of (st.tenure_is t) ∙ sym reach)

  pub read_refused_entry : (r : Refusal)
      → Leads (leases (facing w.clock (Shows w)) rs ts) (leases (facing w.clock (Shows w)) rs ts) actor
      (command.Read t position limit) (Err r)
      → Judges (leases (facing w.clock (Shows w)) rs ts) (leases (facing w.clock (Shows w)) rs ts) actor
      (entry.Read t limit ended ns) (Err (rule.By r)) log
  read_refused_entry r leads = (
    judged_refused (decide log w.clock actor (command.Read t position limit)) (entry.Read t limit ended ns) r
        (leads log st).0 ∙ ap (λ d. judged d (entry.Read t limit ended ns)) (sym tells),
    (tt, st),
  )

  same_read : (e : Bool) (ms : List ℕ) → same_entry (entry.Read t limit e ms) (entry.Read t limit ended ns)
      ≡ (same_flag e ended && same_list ms ns)
  same_read e ms = rw (is_itself t, is_itself limit) refl

  -- The tenure may read: `ms` are the numbers of the batch, and `e` says whether the shard ends with it.
  module _ (y : Tenure) (reads : Ok y ≡ reader_answer (own_tenure (tenure_at ts t) actor) log w.clock position)
      (v : StreamValue) (live : live_at w.streams y.key.stream ≡ Some v)
      (ms : List ℕ) (ms_are : ms
      ≡ numbers_of (beginning limit BATCH_BYTES
      (left_among (floor_in v w.clock) position (records_in v.records y.key.shard))))
      (e : Bool) (e_is : e ≡ (is_closed_at (slice_get v.tree y.key.shard)
      && are_none (left_among (floor_in v w.clock) (position_after position ms)
      (records_in v.records y.key.shard)))) where
    shown_stream : IsStream log y.key.stream v
    shown_stream = stream_found w log y.key.stream v st.shows (live_found (stream_at w.streams y.key.stream) v live).0

    its_live : v.live ≡ true
    its_live = (live_found (stream_at w.streams y.key.stream) v live).1

    pub numbers_are : ms ≡ numbers_of (batch log w.clock y.key.stream y.key.shard position limit)
    numbers_are = ms_are ∙ sym
        (batch_is log w.clock y.key.stream y.key.shard position limit v shown_stream its_live st.shows.order)

    pub end_is : e ≡ ends_at log w.clock y.key.stream y.key.shard
        (position_after position (numbers_of (batch log w.clock y.key.stream y.key.shard position limit)))
    end_is =
        e_is
        ∙ sym (ends_is log w.clock y.key.stream y.key.shard (position_after position ms) v shown_stream its_live
        st.shows.order)
        ∙ ap (λ ls. ends_at log w.clock y.key.stream y.key.shard (position_after position ls)) numbers_are

    pub gives_line : (r : Reply)
        × (decide log w.clock actor (command.Read t position limit)
        ≡ Accepted (plain_line w.clock actor (entry.Read t limit e ms) ∷ []) r)
    gives_line =
        let g = read_gives (facing w.clock (Shows w)) rs ts actor t position limit y log st reads in (
          g.0,
          g.1 ∙ ap (λ b. Accepted
              (plain_line w.clock actor
              (entry.Read t limit b (numbers_of (batch log w.clock y.key.stream y.key.shard position limit))) ∷ [])
              g.0) (sym end_is)
              ∙ ap (λ ls. Accepted (plain_line w.clock actor (entry.Read t limit e ls) ∷ []) g.0) (sym numbers_are),
        )

    pub read_verdict : judged
        (told log (entry_line w.clock actor (entry.Read t limit ended ns)) (entry.Read t limit ended ns))
        (entry.Read t limit ended ns) ≡ agrees (same_flag e ended && same_list ms ns)
    read_verdict =
        ap (λ d. judged d (entry.Read t limit ended ns)) (tells ∙ gives_line.1)
        ∙ ap agrees (same_read e ms)

    -- A read with another end or other numbers than the model's breaks the rule `Entry`.
    pub read_other : (same_flag e ended && same_list ms ns) ≡ false
        → Judges (leases (facing w.clock (Shows w)) rs ts) (leases (facing w.clock (Shows w)) rs ts) actor
        (entry.Read t limit ended ns) (Err rule.Entry) log
    read_other differs = (sym (read_verdict ∙ ap agrees differs), (tt, st))

    pub read_entry : (new : List TenureValue) (n : ℕ) → KeepsShards w.clock (Shows w) → n ≡ position_after position ms
        → IfSome (tenure_at ts t) (λ x. new ≡ slice_set ts (t - 1) (with_read n e x))
        → same_flag e ended ≡ true → same_list ms ns ≡ true
        → Judges (leases (facing w.clock (Shows w)) rs ts) (leases (facing w.clock (Shows w)) rs new) actor
        (entry.Read t limit ended ns) (Ok tt) log
    read_entry new n law n_is new_is ends lists =
        let both : (same_flag e ended && same_list ms ns) ≡ true = rw (ends, lists) refl in
        let s = facing w.clock (Shows w) in
        let xs = batch log w.clock y.key.stream y.key.shard position limit in
        let far : n ≡ position_after position (map (λ (r : Stored). r.seq) (map stored xs)) =
        n_is ∙ ap (position_after position) (numbers_are ∙ sym (numbers_stored xs)) in
        let done = read_at s rs ts actor t position limit y (map stored xs) e n new law log st reads refl end_is far
        new_is in
        let line_is : plain_line w.clock actor (entry.Read t limit e ms)
        ≡ entry_line w.clock actor (entry.Read t limit ended ns) =
        ap (λ b. plain_line w.clock actor (entry.Read t limit b ms)) (flag_so e ended ends)
        ∙ ap (λ ls. plain_line w.clock actor (entry.Read t limit ended ls)) (list_so ms ns lists) in
        let stands : Stands (leases s rs new) (plain_line w.clock actor (entry.Read t limit e ms) ∷ log) =
        subst (λ (d : Decision). Stands (leases s rs new) (with_lines (lines_of d) log)) gives_line.1 done.1 in (
          sym (read_verdict ∙ ap agrees both),
          (subst (λ (l : Line). Stands (leases s rs new) (l ∷ log)) line_is stands, tt),
        )
