-- Below 24 hours, a drained drill's summary depends only on the commands for the stream service.
use Rattle.std.proofs.Common.{◌≡◌, ℕ, ◌+◌, ◌<◌, Bool, true, false, List, [], ◌∷◌, length, Option, Some, None, refl, sym}
use Rattle.std.proofs.Common.{ap, ◌∙◌, arith}
use Rattle.std.specs.Prelude.{◌==◌, ◌&&◌, not, map, reverse, cond, if◌then◌else◌}
use Rattle.std.specs.List.{AllByRecursion}
use Rattle.std.specs.Option.{option_map}
use Rattle.std.proofs.lemmas.Bool.Decides.{nat_tests}
use Rattle.std.proofs.lemmas.List.{length-map, map-append}
use Rattle.kds_base.specs.declared.lease_key.Checkpoint.{Checkpoint}
use Rattle.kds_base.specs.declared.lease_key.Checkpoint.TheVariants as checkpoint
use Rattle.kds_defs.proofs.Elsewhere as elsewhere
use Rattle.kds_defs.specs.declared.command.Turn.{Turn}
use Rattle.kds_defs.specs.declared.entry.Entry.{Entry}
use Rattle.kds_defs.specs.declared.entry.Entry.TheVariants as entry
use Rattle.kds_defs.specs.declared.reply.Row.{Row}
use Rattle.kds_defs.specs.Histories.{journal, clock}
use Rattle.kds_defs.specs.Journal.{Line, Journal}
use Rattle.kds_defs.specs.Keys.{ref}
use Rattle.kds_defs.specs.Kinds.{is_service}
use Rattle.kds_defs.specs.Lawful.{IsHistory}
use Rattle.kds_defs.specs.Leases.{row, checkpoint_in}
use Rattle.kds_defs.specs.Records.{Logged, records, records_after}
use Rattle.kds_defs.specs.Shards.{ShardState, Closing, is_open, shards, listed_among, listed_shards, was_closed_below}
use Rattle.kds_defs.specs.Streams.{is_live, stream_named, trim_floor}
use Rattle.kcl_laws.proofs.LegalLemmas.{live_named}
use Rattle.kcl_drill.specs.Apart.{AreBasic, LEAST_RETENTION, service_turns}
use Rattle.kcl_drill.specs.Generated.{drill_name, generated}
use Rattle.kcl_drill.specs.Summed.{Summed, summed, summed_at, summary_of, summary_text, bytes_of, last_checkpoint}
use Rattle.kcl_drill.specs.Summed.{final_checkpoint, final_at}
use Rattle.kcl_drill.specs.Summed.{final_of, turns_of, drill_text, text_of, IsDrained, AreDrained}
use Rattle.kcl_drill.proofs.ApartLemmas.{Reaches, Asked, asked, same_left, basic_service, lawful_service}
use Rattle.kcl_drill.proofs.ApartLemmas.{services_twice}
use Rattle.kcl_drill.proofs.Inner.{basic_if_generated}
use Rattle.kcl_drill.proofs.Readings.{both_none, forget, kept, no_stream, reads_same, named_same, shards_same}
use Rattle.kcl_drill.proofs.Readings.{untrimmed, young_if_legal}
use Rattle.kcl_drill.proofs.Undated.{undated_shard, undated_all, open_undated}

-- ---- Records, with their arrivals set to 0

-- The record with the arrival 0.
abbrev undated_record : Logged → Logged
undated_record r = record r { arrival = 0 }

-- The records, each with the arrival 0.
abbrev undated_records : List Logged → List Logged
undated_records rs = map undated_record rs

chosen_records : (b : Bool) (xs ys xs' ys' : List Logged) → undated_records xs ≡ xs' → undated_records ys ≡ ys'
    → undated_records (if b then xs else ys) ≡ (if b then xs' else ys')
chosen_records true xs ys xs' ys' h g = h
chosen_records false xs ys xs' ys' h g = g

records_undated : (f : ℕ → ℕ) (line : Line) (e : Entry) (s sh : ℕ) (rs : List Logged)
    → undated_records (records_after line e s sh rs) ≡ records_after (forget f line) e s sh (undated_records rs)
records_undated f line (entry.Put stream shard seq hash bytes key_bytes) s sh rs =
    chosen_records ((stream == s) && (shard == sh)) _ rs _ (undated_records rs)
    (map-append undated_record rs (record {
      seq = seq;
      arrival = line.clock;
      bytes = bytes + key_bytes;
      key = line.key;
      payload = line.payload;
    } ∷ [])) refl
records_undated f line _ s sh rs = refl

-- A shard's records, with their arrivals set to 0, follow from the lines on streams alone.
records_same : (f : ℕ → ℕ) (log : Journal) (s sh : ℕ) → undated_records (records log s sh) ≡ records (kept f log) s sh
records_same f log s sh =
    reads_same f (λ l. records l s sh) (λ line rs. records_after line line.what s sh rs) undated_records
    (λ line log. refl) refl
    (λ line rs is. elsewhere.records_same line line.what s sh rs (no_stream line.what s is))
    (λ line rs. records_undated f line line.what s sh rs) log

bytes_records : (rs : List Logged) → bytes_of (undated_records rs) ≡ bytes_of rs
bytes_records [] = refl
bytes_records (r ∷ rs) = ap (λ n. length r.payload + n) (bytes_records rs)

last_records : (rs : List Logged) → last_checkpoint (undated_records rs) ≡ last_checkpoint rs
last_records [] = refl
last_records (r ∷ []) = refl
last_records (r ∷ q ∷ rs) = last_records (q ∷ rs)

-- ---- What the summary says of a shard that was read to its end

final : ShardState → List Logged → Summed
final x rs = summed x.no rs (final_checkpoint x rs)

final_undated : (x : ShardState) (rs : List Logged) → final (undated_shard x) (undated_records rs) ≡ final x rs
unfolding final
final_undated x rs =
    ap (λ n. record {
      no = x.no;
      count = n;
      bytes = bytes_of (undated_records rs);
      checkpoint = final_checkpoint (undated_shard x) (undated_records rs);
    })
    (length-map rs undated_record)
    ∙ ap (λ n. record {
      no = x.no;
      count = length rs;
      bytes = n;
      checkpoint = final_checkpoint (undated_shard x) (undated_records rs);
    }) (bytes_records rs)
    ∙ ap (λ mark. record {
      no = x.no;
      count = length rs;
      bytes = bytes_of rs;
      checkpoint = if is_open (undated_shard x) then mark else checkpoint.ShardEnd;
    })
    (last_records rs)
    ∙ ap (λ b. record {
      no = x.no;
      count = length rs;
      bytes = bytes_of rs;
      checkpoint = if b then last_checkpoint rs else checkpoint.ShardEnd;
    })
    (open_undated (Some x))

final_kept_at : (f : ℕ → ℕ) (log : Journal) (s : ℕ) (x : ShardState)
    → final_at (kept f log) s (undated_shard x) ≡ final_at log s x
unfolding final
final_kept_at f log s x = ap (final (undated_shard x)) (sym (records_same f log s x.no))
    ∙ final_undated x (records log s x.no)

final_kept_all : (f : ℕ → ℕ) (log : Journal) (s : ℕ) (xs : List ShardState)
    → map (final_at (kept f log) s) (undated_all xs) ≡ map (final_at log s) xs
final_kept_all f log s [] = refl
final_kept_all f log s (x ∷ xs) =
    ap (λ y. y ∷ map (final_at (kept f log) s) (undated_all xs)) (final_kept_at f log s x)
    ∙ ap (λ ys. final_at log s x ∷ ys) (final_kept_all f log s xs)

final_kept_of : (f : ℕ → ℕ) (log : Journal) (o : Option ℕ) → final_of (kept f log) o ≡ final_of log o
final_kept_of f log None = refl
final_kept_of f log (Some s) =
    ap text_of (ap (map (final_at (kept f log) s)) (sym (shards_same f log s)) ∙ final_kept_all f log s (shards log s))

-- The summary of the drill's stream once each of its shards was read to its end.
abbrev final_text : Journal → List ℕ
final_text log = final_of log (stream_named log drill_name)

final_kept : (f : ℕ → ℕ) (log : Journal) → final_text (kept f log) ≡ final_text log
final_kept f log = ap (final_of (kept f log)) (sym (named_same f log drill_name))
    ∙ final_kept_of f log (stream_named log drill_name)

-- ---- The summary if the rows say that each shard was read to its end

all_listed : (xs : List ShardState) → listed_among 0 xs ≡ xs
all_listed [] = refl
all_listed (x ∷ xs) = ap (λ b. cond (not b) (x ∷ listed_among 0 xs) (listed_among 0 xs)) (never x.closing)
    ∙ ap (λ ys. x ∷ ys) (all_listed xs)
  where
    never : (c : Option Closing) → was_closed_below 0 c ≡ false
    never None = refl
    never (Some c) = grind (arith, nat_tests)

listed_all : (log : Journal) (c s : ℕ) → is_live log s ≡ true → trim_floor log c s ≡ 0
    → listed_shards log c s ≡ shards log s
listed_all log c s live none =
    ap (λ b. if b then listed_among (trim_floor log c s) (shards log s) else []) live
    ∙ ap (λ n. listed_among n (shards log s)) none
    ∙ all_listed (shards log s)

checkpoint_is : (o : Option Row) (mark : Checkpoint) → option_map (λ r. r.checkpoint) o ≡ Some mark
    → checkpoint_in o ≡ mark
checkpoint_is None mark is = absurd cc
checkpoint_is (Some r) mark is = cc (is)

drained_all : (log : Journal) (s : ℕ) (xs : List ShardState) → AllByRecursion (IsDrained log s) xs
    → map (summed_at log s) xs ≡ map (final_at log s) xs
drained_all log s [] are = refl
drained_all log s (x ∷ xs) are =
    ap (λ mark. summed x.no (records log s x.no) mark ∷ map (summed_at log s) xs)
    (checkpoint_is (row log (ref s x.no)) _ are.0)
    ∙ ap (λ ys. final_at log s x ∷ ys) (drained_all log s xs are.1)

summary_final : (log : Journal) (c : ℕ) (o : Option ℕ) → stream_named log drill_name ≡ o → AreDrained log c
    → ((s : ℕ) → trim_floor log c s ≡ 0)
    → summary_of log c o ≡ final_of log o
summary_final log c None is drained none = refl
summary_final log c (Some s) is drained none =
    ap text_of
    (drained_all log s (listed_shards log c s) (drained s)
    ∙ ap (map (final_at log s)) (listed_all log c s (live_named log drill_name s is) (none s)))

-- ---- The commands alone, as turns of the actor 0 at the moment 0

-- The turn by the actor 0 at the moment 0.
abbrev bare : Turn → Turn
bare turn = record { by = 0; at = 0; what = turn.what }

bare_lawful : (h : List Turn) → IsHistory h → IsHistory (map bare h)
bare_lawful [] lawful = tt
bare_lawful (turn ∷ h) lawful = ((omega arith, lawful.0.1), bare_lawful h lawful.1)

bare_basic : (h : List Turn) → AreBasic h → AreBasic (map bare h)
bare_basic [] are = tt
bare_basic (turn ∷ h) are = (are.0, bare_basic h are.1)

bare_clock : (h : List Turn) → clock (map bare h) ≡ 0
bare_clock [] = refl
bare_clock (turn ∷ h) = both_none _ 0 (bare_clock h) refl

bare_services : (h : List Turn) → service_turns (map bare h) ≡ map bare (service_turns h)
bare_services [] = refl
bare_services (turn ∷ h) = either (is_service turn.what) (bare_services h)
  where
    either : (b : Bool) → service_turns (map bare h) ≡ map bare (service_turns h)
        → cond b (bare turn ∷ service_turns (map bare h)) (service_turns (map bare h))
        ≡ map bare (cond b (turn ∷ service_turns h) (service_turns h))
    either true so = ap (λ ts. bare turn ∷ ts) so
    either false so = so

-- The function that gives 0 for each actor, so that all actors are alike.
abbrev pub nobody : ℕ → ℕ
nobody n = 0

-- The command of the turn, with the actor 0.
abbrev by_nobody : Turn → Asked
by_nobody turn = record { by = 0; what = turn.what }

bare_asked : (ts : List Turn) → map by_nobody (map bare ts) ≡ map by_nobody ts
bare_asked [] = refl
bare_asked (turn ∷ ts) = ap (λ xs. by_nobody turn ∷ xs) (bare_asked ts)

asks_same : (h : List Turn) → asked nobody h ≡ asked nobody (map bare (service_turns h))
asks_same h =
    ap (map by_nobody) (services_twice h)
    ∙ sym (bare_asked (service_turns (service_turns h)))
    ∙ ap (map by_nobody) (sym (bare_services (service_turns h)))

bare_turns : (ts : List Turn)
    → map bare ts ≡ map (λ command. record { by = 0; at = 0; what = command }) (map (λ turn. turn.what) ts)
bare_turns [] = refl
bare_turns (turn ∷ ts) = ap (λ xs. bare turn ∷ xs) (bare_turns ts)

-- Up to actors and clocks, the history has the stream lines of the generator's commands alone.
pub asked_alone : Reaches → (h : List Turn) (number count : ℕ) → IsHistory h → clock h < LEAST_RETENTION
    → map (λ turn. turn.what) (service_turns h) ≡ reverse (generated number count)
    → kept nobody (journal h) ≡ kept nobody (journal (turns_of (generated number count)))
asked_alone reaches h number count lawful below are =
    let alone = map bare (service_turns h) in
    let lawful' = bare_lawful (service_turns h) (lawful_service h lawful) in
    let below' : clock alone < LEAST_RETENTION = omega (arith, bare_clock (service_turns h)) in
    let basic = basic_if_generated h number count are in
    let basic' = bare_basic (service_turns h) (basic_service h basic) in
    let same = same_left reaches nobody (λ n. refl) h alone lawful lawful' basic basic' below below' (asks_same h) in
    let commands : alone ≡ turns_of (generated number count) =
    bare_turns (service_turns h) ∙ ap (map (λ command. record { by = 0; at = 0; what = command })) are in
    same ∙ ap (λ ts. kept nobody (journal ts)) commands

-- Once each listed shard was read to its end, the summary is the text that the drill should print.
pub text_alone : Reaches → (h : List Turn) (number count : ℕ) → IsHistory h → clock h < LEAST_RETENTION
    → map (λ turn. turn.what) (service_turns h) ≡ reverse (generated number count) → AreDrained (journal h) (clock h)
    → summary_text (journal h) (clock h) ≡ drill_text number count
text_alone reaches h number count lawful below are drained =
    let reached = reaches h lawful in
    let young = young_if_legal (journal h) reached.legal (omega (arith, reached.order, below)) in
    summary_final (journal h) (clock h) (stream_named (journal h) drill_name) refl drained
    (λ s. untrimmed (journal h) (clock h) s young below)
    ∙ sym (final_kept nobody (journal h))
    ∙ ap final_text (asked_alone reaches h number count lawful below are)
    ∙ final_kept nobody (journal (turns_of (generated number count)))
