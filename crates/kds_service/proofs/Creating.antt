-- CreateStream: its refusals in order, and the service with the new stream.
use Rattle.std.proofs.Common.{◌≡◌, ℕ, ◌+◌, ◌<◌, true, false, List, [], ◌∷◌, ◌++◌, length, sym, ap, subst, ◌∙◌, arith}
use Rattle.std.specs.Prelude.{◌==◌, ◌||◌, is_some, nat_le, nat_lt, Ok, Err}
use Rattle.kds_defs.specs.declared.command.Command.TheVariants as command
use Rattle.kds_defs.specs.declared.entry.Entry.TheVariants as entry
use Rattle.kds_defs.specs.declared.limits.TheConstants.{LIVE_STREAMS, OPEN_SHARDS}
use Rattle.kds_defs.specs.declared.reply.Refusal.TheVariants as refusal
use Rattle.kds_defs.specs.declared.reply.Reply.TheVariants as reply
use Rattle.kds_defs.specs.Decision.{Accepted}
use Rattle.kds_defs.specs.Journal.{Journal, plain_line}
use Rattle.kds_defs.specs.Shards.{open_count}
use Rattle.kds_defs.specs.StreamCommands.{create, last_number}
use Rattle.kds_defs.specs.Streams.{live_streams, made_count}
use Rattle.kds_defs.proofs.Decisions.{after_accepted, passed_if, refused_if}
use Rattle.kds_defs.specs.Subjects.{IsFresh}
use Rattle.kds_stream.specs.Showing.{Shows}
use Rattle.kds_stream.specs.Value.{StreamValue}
use Rattle.kds_service.proofs.Leading.{refused_leads}
use Rattle.kds_service.proofs.Readings.{live_count, open_are, some_named}
use Rattle.kds_service.specs.Indexes.{is_full, index_by_name}
use Rattle.kds_service.specs.Shown.{Leads, ServiceValue, ShowsAll, StaysShownWith, service}

full : (w : ServiceValue) (log : Journal) (count : ℕ) → ShowsAll w log
    → (nat_le LIVE_STREAMS (length (live_streams log)) || nat_lt OPEN_SHARDS (open_count log + count))
    ≡ is_full w.streams count
full w log count all =
    ap (λ n. nat_le LIVE_STREAMS n || nat_lt OPEN_SHARDS (open_count log + count)) (live_count w log all)
    ∙ ap (λ n. nat_le LIVE_STREAMS (length w.streams) || nat_lt OPEN_SHARDS (n + count)) (open_are w log all)

-- A service shows a new stream that shows its line; a premise here, proved in `Lives`.
abbrev pub Adds : Type 0
Adds = (c b n actor count : ℕ) (name : List ℕ) (vs : List StreamValue) (v : StreamValue) (log : Journal)
    → ShowsAll (service c b n vs) log
    → StaysShownWith c b n vs log v actor name count

module _ (c b n : ℕ) (vs : List StreamValue) (name : List ℕ) (count : ℕ) where
  pub create_there : is_some (index_by_name vs name) ≡ true
      → Leads (service c b n vs) (service c b n vs) (command.Create name count) (Err refusal.StreamThere)
  create_there is =
      refused_leads (service c b n vs) (command.Create name count) refusal.StreamThere
      (λ log actor all. refused_if _ _ _ (some_named (service c b n vs) log name all ∙ is))

  pub create_full : is_some (index_by_name vs name) ≡ false → is_full vs count ≡ true
      → Leads (service c b n vs) (service c b n vs) (command.Create name count) (Err refusal.Full)
  create_full is at_limit =
      refused_leads (service c b n vs) (command.Create name count) refusal.Full
      (λ log actor all. passed_if _ _ _ (some_named (service c b n vs) log name all ∙ is)
      ∙ refused_if _ _ _ (full (service c b n vs) log count all ∙ at_limit))

  pub create_spent : is_some (index_by_name vs name) ≡ false → is_full vs count ≡ false → (n == last_number) ≡ true
      → Leads (service c b n vs) (service c b n vs) (command.Create name count) (Err refusal.Spent)
  create_spent is room last =
      refused_leads (service c b n vs) (command.Create name count) refusal.Spent
      (λ log actor all.
      passed_if _ _ _ (some_named (service c b n vs) log name all ∙ is)
      ∙ passed_if _ _ _ (full (service c b n vs) log count all ∙ room)
      ∙ refused_if _ _ _ (ap (λ m. m == last_number) all.made ∙ last))

  pub create_done : (m : ℕ) (ws : List StreamValue) (v : StreamValue) → Adds → is_some (index_by_name vs name) ≡ false
      → is_full vs count ≡ false
      → (n == last_number) ≡ false
      → m ≡ n + 1 → ws ≡ vs ++ (v ∷ []) → v.no ≡ m → v.clock ≡ c
      → ((log : Journal) (actor : ℕ) → IsFresh log m → Shows v (plain_line c actor (entry.Made m name count) ∷ log))
      → Leads (service c b n vs) (service c b m ws) (command.Create name count) (Ok reply.Done)
  create_done m ws v adds is room more next pushed no_is clock_is shows = λ log actor all.
      let w = service c b n vs in
      let line = plain_line c actor (entry.Made (made_count log + 1) name count) in
      let here = plain_line c actor (entry.Made (n + 1) name count) in
      let same : here ≡ line = ap (λ k. plain_line c actor (entry.Made (k + 1) name count)) (sym all.made) in
      let shown : Shows v (here ∷ log) =
      subst (λ k. Shows v (plain_line c actor (entry.Made k name count) ∷ log)) next
      (shows log actor (all.unmade m (later m n next))) in
      let decided : create log c actor name count ≡ Accepted (line ∷ []) reply.Done =
      passed_if _ _ _ (some_named w log name all ∙ is)
      ∙ passed_if _ _ _ (full w log count all ∙ room)
      ∙ passed_if _ _ _ (ap (λ k. k == last_number) all.made ∙ more) in
      after_accepted (create log c actor name count) (line ∷ []) reply.Done log (ShowsAll (service c b m ws)) decided
      (subst (λ k. ShowsAll (service c b k ws) (line ∷ log)) (sym next)
      (subst (λ us. ShowsAll (service c b (n + 1) us) (line ∷ log)) (sym pushed)
      (subst (λ l. ShowsAll (service c b (n + 1) (vs ++ (v ∷ []))) (l ∷ log)) same
      (adds c b n actor count name vs v log all (no_is ∙ next) clock_is shown))))
    where
      later : (m n : ℕ) → m ≡ n + 1 → n < m
      later m n h = omega arith
