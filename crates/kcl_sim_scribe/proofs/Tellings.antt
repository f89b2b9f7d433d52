-- For each command but CreateStream, the scribe writes the lines that the command adds.
use Rattle.std.proofs.Common.{◌≡◌, ℕ, suc, ◌+◌, ◌<◌, ◌≤◌, List, [], ◌∷◌, length, map, false, Option, Some, None, refl}
use Rattle.std.proofs.Common.{sym, ap, ◌∙◌, arith, inl, inr, ◌⊎◌}
use Rattle.std.proofs.lemmas.Bool.{cases_Bool, or_parts}
use Rattle.std.proofs.lemmas.Bool.Decides.{nat_tests}
use Rattle.std.specs.List.{filter}
use Rattle.std.specs.Prelude.{Ok, ◌==◌, nat_lt, option_map}
use Rattle.kds_base.proofs.Facts.{is_itself}
use Rattle.kds_defs.specs.declared.command.Command.{Command}
use Rattle.kds_defs.specs.declared.command.Command.TheVariants as command
use Rattle.kds_defs.specs.declared.command.NewItem.{NewItem}
use Rattle.kds_defs.specs.declared.entry.Entry.TheVariants as entry
use Rattle.kds_defs.specs.declared.reply.Outcome.{Outcome}
use Rattle.kds_defs.specs.declared.reply.Reply.{Reply}
use Rattle.kds_defs.specs.declared.scale.ScaleStep.{ScaleStep}
use Rattle.kds_defs.specs.declared.scale.ScaleStep.TheVariants.{Join, Cut}
use Rattle.kds_defs.specs.Journal.{Journal, Line, plain_line}
use Rattle.kds_defs.specs.Leases.{reach}
use Rattle.kds_defs.specs.PutCommands.{is_held_back, put_lines, put_outcomes}
use Rattle.kds_defs.specs.Records.{Logged, batch, next_number, stored}
use Rattle.kds_defs.specs.ScaleCommands.{step_entry, step_lines, steps_to}
use Rattle.kds_defs.specs.Shards.{shards}
use Rattle.kds_defs.specs.StreamCommands.{last_number, put_line, put_place}
use Rattle.kds_defs.specs.Streams.{live_streams, made_count, name_of, same_name, stream_named}
use Rattle.kds_defs.proofs.Walk as walks
use Rattle.kcl_sim_scribe.specs.Added.{told_by}
use Rattle.kcl_sim_scribe.specs.Known.{IsKnown, Known, Knows, known_as}
use Rattle.kcl_sim_scribe.specs.Telling.{MayNumber, changed_name, entries_of, is_step, line_by, lines_by, numbers_read}
use Rattle.kcl_sim_scribe.specs.Telling.{put_entries, put_entry}
use Rattle.kcl_sim_scribe.proofs.Lists.{found_is}
use Rattle.kcl_sim_scribe.proofs.Readings.{FitAll, live_below, named_is, no_of}

-- ---- Numbers, and streams found by their names

one_of : (o : Option Known) (s : ℕ) → option_map no_of o ≡ Some s → (v : Known) × (o ≡ Some v) × (v.no ≡ s)
one_of None s h = absurd (cc)
one_of (Some v) s h = let e : v.no ≡ s = cc in (v, refl, e)

below_last : (n d : ℕ) → n ≡ d + 1 → d < last_number → (n == last_number) ≡ false → n < last_number
below_last n d e l h = grind (arith, nat_tests, e, l, h)

at_most : (n m : ℕ) → nat_lt n m ≡ false → m ≤ n
at_most n m h = grind (arith, nat_tests, h)

-- ---- The lines of puts and of the steps of a scaling

puts_fit : (log : Journal) (c actor s : ℕ) (items : List NewItem) → s ≤ made_count log
    → next_number log s + length (put_lines log c actor s items) ≤ last_number
    → FitAll log (put_lines log c actor s items)
puts_fit log c actor s [] below fits = tt
puts_fit log c actor s (item ∷ items) below fits =
    let line : Line = put_line log c actor s (next_number log s) item in
    elim (cases_Bool (is_held_back log c s item)) [
      | inl held ↦ rw held
          (puts_fit log c actor s items below
          (let h : next_number log s + length (put_lines log c actor s items) ≤ last_number = rw held at fits in
          h))
      | inr free ↦
          let h : next_number log s + suc (length (put_lines (line ∷ log) c actor s items)) ≤ last_number =
          rw free at fits in
          let next : next_number (line ∷ log) s ≡ 1 + next_number log s = rw (is_itself s) refl in
          rw free ((below, (refl, omega arith)), puts_fit (line ∷ log) c actor s items below (omega arith))
    ]

puts_told : (log : Journal) (c actor s : ℕ)
    (items : List NewItem)
    → map told_by (put_lines log c actor s items)
    ≡ lines_by c actor (put_entries s items (put_outcomes log c actor s items))
puts_told log c actor s [] = refl
puts_told log c actor s (item ∷ items) =
    grind (
      arith,
      puts_told log c actor s items,
      puts_told (put_line log c actor s (next_number log s) item ∷ log) c actor s items,
    )

pub none_put : (s : ℕ) (items : List NewItem) (outcomes : List Outcome) → (items ≡ []) ⊎ (outcomes ≡ [])
    → put_entries s items outcomes ≡ []
none_put s [] outcomes h = refl
none_put s (item ∷ items) [] h = refl
none_put s (item ∷ items) (o ∷ outcomes) (inl e) = absurd (cc e)
none_put s (item ∷ items) (o ∷ outcomes) (inr e) = absurd (cc e)

steps_fit : (log : Journal) (c actor s : ℕ) (steps : List ScaleStep) → s ≤ made_count log
    → next_number log s + length steps ≤ last_number
    → FitAll log (step_lines log c actor s steps)
steps_fit log c actor s [] below fits = tt
steps_fit log c actor s (Join b ∷ steps) below fits =
    let line : Line = plain_line c actor (step_entry log s (Join b)) in
    let next : next_number (line ∷ log) s ≡ 1 + next_number log s = rw (is_itself s) refl in (
      (below, ((refl, omega (arith, fits)), refl)),
      steps_fit (line ∷ log) c actor s steps below (omega (arith, fits)),
    )
steps_fit log c actor s (Cut b ∷ steps) below fits =
    let line : Line = plain_line c actor (step_entry log s (Cut b)) in
    let next : next_number (line ∷ log) s ≡ 1 + next_number log s = rw (is_itself s) refl in (
      (below, ((refl, omega (arith, fits)), refl)),
      steps_fit (line ∷ log) c actor s steps below (omega (arith, fits)),
    )

steps_told : (log : Journal) (c actor s : ℕ)
    (steps : List ScaleStep)
    → map told_by (step_lines log c actor s steps)
    ≡ lines_by c actor (filter is_step (map (λ (line : Line). line.what) (step_lines log c actor s steps)))
steps_told log c actor s [] = refl
steps_told log c actor s (Join b ∷ steps) =
    let line : Line = plain_line c actor (step_entry log s (Join b)) in
    ap (λ ls. told_by line ∷ ls) (steps_told (line ∷ log) c actor s steps)
steps_told log c actor s (Cut b ∷ steps) =
    let line : Line = plain_line c actor (step_entry log s (Cut b)) in
    ap (λ ls. told_by line ∷ ls) (steps_told (line ∷ log) c actor s steps)

read_told : (rs : List Logged) → map (λ (r : Logged). r.seq) rs ≡ numbers_read (map stored rs)
read_told [] = refl
read_told (r ∷ rs) = ap (λ ns. r.seq ∷ ns) (read_told rs)

-- ---- The lines of each command

-- The command isn't CreateStream.
abbrev pub IsOther : Command → Type 0
IsOther (command.Create name count) = ⊥
IsOther _ = Unit {0}

-- The numbers that the command takes are left, its lines fit the journal, and the scribe writes just these.
pub record Told (log : Journal) (c actor : ℕ) (vs : List Known) (asked : Command) (lines : List Line) (r : Reply) :
    Type 0 where
  pub can : MayNumber (changed_name asked) vs asked
  pub fits : FitAll log lines
  pub told : map told_by lines ≡ lines_by c actor (entries_of vs asked r)

-- `vs` are the live streams that the scribe knows, as the journal `log` says.
module _ (log : Journal) (c actor made : ℕ) (vs : List Known) (k : Knows log made vs) where
  in_named : {A : Type 0} (name : List ℕ) (s : ℕ) → stream_named log name ≡ Some s
      → ((v : Known) → known_as name vs ≡ Some v → s ≡ v.no → s ≤ made_count log → next_number log s ≡ v.drawn + 1
      → length (shards log s) ≡ v.shard + 1
      → v.drawn < last_number → A) → A
  in_named name s found each =
      let m = one_of (known_as name vs) s (sym (named_is log made vs name k) ∙ found) in
      let below : s ≤ made_count log =
      found_is (λ n. n ≤ made_count log) (λ n. same_name (name_of log n) name) (live_streams log) s (live_below log)
      found in
      let known : IsKnown log m.0 = found_is (IsKnown log) (λ (v : Known). same_name v.name name) vs m.0 k.known m.1 in
      each m.0 m.1 (sym m.2) below (ap (next_number log) (sym m.2) ∙ known.next)
      (ap (λ n. length (shards log n)) (sym m.2) ∙ known.many) known.left

  tells_line : (asked : Command) (line : Line) (r : Reply) → walks.Tells log c actor asked line r → IsOther asked
      → Told log c actor vs asked (line ∷ []) r
  tells_line _ _ _ (walks.Creates name count fits) other = absurd other
  tells_line _ _ _ (walks.Deletes name s named) other = in_named name s named (λ v is no below next many left.
      record { can = rw is tt; fits = (tt, tt); told = rw is (λ i. line_by c actor (entry.Gone (no i)) ∷ []) })
  tells_line _ _ _ (walks.Keeps name wanted raise s named fits) other =
      in_named name s named (λ v is no below next many left.
      record { can = rw is tt; fits = (tt, tt); told = rw is (λ i. line_by c actor (entry.Kept (no i) wanted) ∷ []) })
  tells_line _ _ _ (walks.Enforces name is_on s named) other = in_named name s named (λ v is no below next many left.
      record {
        can = rw is tt;
        fits = (tt, tt);
        told = rw is (λ i. line_by c actor (entry.Enforced (no i) is_on) ∷ []);
      })
  tells_line _ _ _ (walks.Puts name item s named fits) other = in_named name s named (λ v is no below next many left.
      let place = put_place log s (next_number log s) item in
      record {
        can = rw is tt;
        fits = ((below, (refl, below_last _ v.drawn next left fits)), tt);
        told = rw is (λ i. line_by c actor (put_entry (no i) item place) ∷ []);
      })
  tells_line _ _ _ (walks.Splits name sh hash s named listed fits) other =
      in_named name s named (λ v is no below next many left.
      let parts = or_parts (nat_lt last_number (length (shards log s) + 1)) _ fits in
      let room : length (shards log s) + 1 ≤ last_number = at_most _ _ parts.0 in
      let upper : length (shards log s) + 1 ≡ v.shard + 2 = omega arith in
      record {
        can = rw is (left, omega arith);
        fits = ((below, ((refl, below_last _ v.drawn next left parts.1), refl)), tt);
        told = rw is (λ i. line_by c actor (entry.Split (no i) sh hash (next i) (many i) (upper i)) ∷ []);
      })
  tells_line _ _ _ (walks.Merges name sh other s named listed fits) o =
      in_named name s named (λ v is no below next many left.
      let parts = or_parts (nat_lt last_number (length (shards log s))) _ fits in
      let room : length (shards log s) ≤ last_number = at_most _ _ parts.0 in
      record {
        can = rw is (left, omega arith);
        fits = ((below, ((refl, below_last _ v.drawn next left parts.1), refl)), tt);
        told = rw is (λ i. line_by c actor (entry.Merged (no i) sh other (next i) (many i)) ∷ []);
      })
  tells_line _ _ _ (walks.Reads t position limit T place ended begun same) other = record {
    can = tt;
    fits = (tt, tt);
    told = ap (λ (ns : List ℕ). line_by c actor (entry.Read t limit ended ns) ∷ [])
        (read_told (batch log c T.key.stream T.key.shard (reach T) limit));
  }
  tells_line _ _ _ _ other = record { can = tt; fits = (tt, tt); told = refl }

  pub tells : (asked : Command) (lines : List Line) (r : Reply) → walks.Outcome log c actor asked lines (Ok r)
      → IsOther asked
      → Told log c actor vs asked lines r
  tells _ _ _ (walks.Answers _ _ (walks.Surveys keys rows)) other = record { can = tt; fits = tt; told = refl }
  tells _ _ _ (walks.Answers _ _ _) other = record { can = tt; fits = tt; told = refl }
  tells _ _ _ (walks.Adds asked line r line_is) other = tells_line asked line r line_is other
  tells _ _ _ (walks.Stores name items s named fits) other = in_named name s named (λ v is no below next many left.
      record {
        can = rw is tt;
        fits = puts_fit log c actor s items below (at_most _ _ fits);
        told = rw is (puts_told log c actor s items
            ∙ ap (λ n. lines_by c actor (put_entries n items (put_outcomes log c actor s items))) no);
      })
  tells _ _ _ (walks.Scales name goal s named few fits) other = in_named name s named (λ v is no below next many left.
      let parts = or_parts (nat_lt last_number (next_number log s + length (steps_to log s goal))) _ fits in
      record {
        can = rw is tt;
        fits = steps_fit log c actor s (steps_to log s goal) below (at_most _ _ parts.0);
        told = rw is (steps_told log c actor s (steps_to log s goal));
      })
