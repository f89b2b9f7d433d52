-- DeleteStream: its refusal, and the service without the stream.
use Rattle.std.proofs.Common.{◌≡◌, ℕ, List, [], ◌∷◌, remove, slice_get, Some, None, sym, subst}
use Rattle.std.specs.Prelude.{Ok, Err}
use Rattle.kds_defs.specs.declared.command.Command.TheVariants as command
use Rattle.kds_defs.specs.declared.entry.Entry.TheVariants as entry
use Rattle.kds_defs.specs.declared.reply.Refusal.TheVariants as refusal
use Rattle.kds_defs.specs.declared.reply.Reply.TheVariants as reply
use Rattle.kds_defs.specs.Histories.{with_stream}
use Rattle.kds_defs.specs.Journal.{Journal, plain_line}
use Rattle.kds_defs.specs.StreamCommands.{delete}
use Rattle.kds_defs.proofs.Decisions.{after_accepted, with_none, with_some}
use Rattle.kds_stream.specs.Value.{StreamValue}
use Rattle.kds_service.proofs.Leading.{refused_leads}
use Rattle.kds_service.proofs.Readings.{named_at, none_named}
use Rattle.kds_service.specs.Indexes.{index_by_name}
use Rattle.kds_service.specs.Shown.{LeadsTo, ShowsAll, service}

-- A service shows the removal of a stream; a premise here, proved in `Lives`.
abbrev pub Removes : Type 0
Removes = (c b n actor i : ℕ) (vs : List StreamValue) (x : StreamValue) (log : Journal)
    → ShowsAll (service c b n vs) log
    → slice_get vs i ≡ Some x → ShowsAll (service c b n (remove vs i)) (plain_line c actor (entry.Gone x.no) ∷ log)

module _ (c : ℕ) (vs : List StreamValue) (name : List ℕ) where
  pub delete_none : None ≡ index_by_name vs name → LeadsTo c vs vs (command.Delete name) (Err refusal.NoStream)
  delete_none none b n =
      let w = service c b n vs in
      refused_leads w (command.Delete name) refusal.NoStream
      (λ log actor all. with_none _ _ _ (none_named w log name all (sym none)))

  pub delete_done : (i : ℕ) (ws : List StreamValue) (x : StreamValue) → Removes → Some i ≡ index_by_name vs name
      → slice_get vs i ≡ Some x → ws ≡ remove vs i
      → LeadsTo c vs ws (command.Delete name) (Ok reply.Done)
  delete_done i ws x removes found here taken = λ b n log actor all.
      after_accepted (with_stream log name (λ s. delete log c actor s)) (plain_line c actor (entry.Gone x.no) ∷ [])
      reply.Done log (ShowsAll (service c b n ws))
      (with_some _ _ _ x.no (named_at (service c b n vs) log name i x all (sym found) here))
      (subst (λ us. ShowsAll (service c b n us) (plain_line c actor (entry.Gone x.no) ∷ log)) (sym taken)
      (removes c b n actor i vs x log all here))
