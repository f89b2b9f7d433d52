-- After the commands of a drill's generator, the drill's stream is live and has the number 1.
use Rattle.std.proofs.Common.{◌≡◌, ℕ, ◌<◌, Bool, true, false, List, [], ◌∷◌, ◌++◌, Some, None, refl, sym, ap, subst}
use Rattle.std.proofs.Common.{◌∙◌}
use Rattle.std.specs.Prelude.{map, cond, reverse, if◌then◌else◌}
use Rattle.std.specs.List.{filter, find, AllByRecursion}
use Rattle.std.proofs.lemmas.List.{reverse-append}
use Rattle.kds_defs.specs.declared.command.Command.{Command}
use Rattle.kds_defs.specs.declared.command.Command.TheVariants as command
use Rattle.kds_defs.specs.declared.command.Turn.{Turn}
use Rattle.kds_defs.specs.declared.entry.Entry.{Entry}
use Rattle.kds_defs.specs.declared.entry.Entry.TheVariants as entry
use Rattle.kds_defs.specs.Decision.{refuse◌if◌else◌, with◌or◌then◌}
use Rattle.kds_defs.specs.Histories.{clock, decide, lines_of, journal}
use Rattle.kds_defs.specs.Journal.{Line, Journal, with_lines}
use Rattle.kds_defs.specs.Streams.{made_count, made_count_after, is_live, is_live_after, name_of, name_of_after}
use Rattle.kds_defs.specs.Streams.{numbers_from, same_name, stream_named}
use Rattle.kds_defs.proofs.Walk.{IsAdded, Alone, Merges, Puts, Splits, each_line}
use Rattle.kcl_drill.specs.declared.limits.TheConstants.{FIRST_SHARDS}
use Rattle.kcl_drill.specs.Generated.{drill_name, first_open, generated, from_record}
use Rattle.kcl_drill.specs.Apart.{LEAST_RETENTION, service_turns}
use Rattle.kcl_drill.specs.Summed.{turns_of}
use Rattle.kds_defs.specs.Lawful.{IsHistory}
use Rattle.kcl_drill.proofs.ApartLemmas.{Reaches}
use Rattle.kcl_drill.proofs.Inner.{IsInner, all_reverse, generated_inner}
use Rattle.kcl_drill.proofs.Readings.{named_same}
use Rattle.kcl_drill.proofs.SummedLemmas.{nobody, asked_alone}

-- ---- Commands that neither make nor delete a stream

-- Whether the entry is a put, a split or a merge.
abbrev is_inner : Entry → Bool
is_inner (entry.Put stream shard seq hash bytes key_bytes) = true
is_inner (entry.Split stream shard key_hash seq low high) = true
is_inner (entry.Merged stream shard other seq child) = true
is_inner _ = false

-- Each line has the entry of a put, a split or a merge.
abbrev AreInner : List Line → Type 0
AreInner ls = AllByRecursion (λ l. is_inner l.what ≡ true) ls

inner_line : (log : Journal) (c actor : ℕ) (asked : Command) (line : Line) → IsAdded log c actor asked line
    → IsInner asked
    → is_inner line.what ≡ true
inner_line log c actor _ _ (Alone _ _ _ (Puts name item s named fits)) is = refl
inner_line log c actor _ _ (Alone _ _ _ (Splits name sh hash s named listed fits)) is = refl
inner_line log c actor _ _ (Alone _ _ _ (Merges name sh other s named listed fits)) is = refl
inner_line log c actor _ _ _ is = absurd is

adds_inner : (log : Journal) (c actor : ℕ) (asked : Command) → IsInner asked
    → AreInner (lines_of (decide log c actor asked))
adds_inner log c actor asked is =
    each_line (λ l. is_inner l.what ≡ true) log c actor asked (λ line added. inner_line log c actor asked line added is)

-- ---- The drill's stream stays

-- Just one stream was made; it has the drill's name, and is live.
record HasDrill (log : Journal) : Type 0 where
  pub made : made_count log ≡ 1
  pub live : is_live log 1 ≡ true
  pub named : name_of log 1 ≡ drill_name

stays_by : (line : Line) (log : Journal) (e : Entry) → line.what ≡ e → is_inner e ≡ true → HasDrill log
    → (made_count_after e (made_count log) ≡ 1) × (is_live_after e 1 (is_live log 1) ≡ true)
    × (name_of_after e 1 (name_of log 1) ≡ drill_name)
stays_by line log (entry.Put stream shard seq hash bytes key_bytes) is are has = (has.made, has.live, has.named)
stays_by line log (entry.Split stream shard key_hash seq low high) is are has = (has.made, has.live, has.named)
stays_by line log (entry.Merged stream shard other seq child) is are has = (has.made, has.live, has.named)
stays_by line log _ is are has = absurd cc

stays : (ls : List Line) (log : Journal) → AreInner ls → HasDrill log → HasDrill (with_lines ls log)
stays [] log are has = has
stays (line ∷ ls) log are has =
    let s = stays_by line log line.what refl are.0 has in
    stays ls (line ∷ log) are.1 (record { made = s.0; live = s.1; named = s.2 })

first_drill : HasDrill (journal (turns_of (command.Create drill_name FIRST_SHARDS ∷ [])))
unfolding refuse◌if◌else◌ with◌or◌then◌
first_drill = record { made = refl; live = refl; named = refl }

-- The command as a turn of the actor 0 at the moment 0.
abbrev nobodys : Command → Turn
nobodys asked = record { by = 0; at = 0; what = asked }

all_stay : (commands : List Command) → AllByRecursion IsInner commands
    → HasDrill (journal (map nobodys (commands ++ command.Create drill_name FIRST_SHARDS ∷ [])))
all_stay [] are = first_drill
all_stay (asked ∷ commands) are =
    let ts = map nobodys (commands ++ command.Create drill_name FIRST_SHARDS ∷ []) in
    stays (lines_of (decide (journal ts) _ 0 asked)) (journal ts) (adds_inner (journal ts) _ 0 asked are.0)
    (all_stay commands are.1)

-- ---- After all commands of the generator

named_in : (log : Journal) → HasDrill log → stream_named log drill_name ≡ Some 1
named_in log has = ap (λ n. find (λ s. same_name (name_of log s) drill_name) (filter (is_live log) (numbers_from 1 n)))
    has.made
    ∙ ap (λ b. find (λ s. same_name (name_of log s) drill_name) (cond b (1 ∷ []) [])) has.live
    ∙ ap (λ name. cond (same_name name drill_name) (Some 1) None) has.named

pub drill_named : (number records : ℕ) → stream_named (journal (turns_of (generated number records))) drill_name
    ≡ Some 1
drill_named number records =
    let rest = from_record 0 records number first_open in
    named_in (journal (turns_of (generated number records)))
    (subst (λ commands. HasDrill (journal (map nobodys commands)))
    (sym (reverse-append (command.Create drill_name FIRST_SHARDS ∷ []) rest))
    (all_stay (reverse rest) (all_reverse rest (generated_inner 0 records number first_open))))

-- After a generator's commands, below 24 hours, the drill's name means the stream 1, whoever sent them.
pub live_alone : Reaches → (h : List Turn) (number count : ℕ) → IsHistory h → clock h < LEAST_RETENTION
    → map (λ turn. turn.what) (service_turns h) ≡ reverse (generated number count)
    → stream_named (journal h) drill_name ≡ Some 1
live_alone reaches h number count lawful below are =
    named_same nobody (journal h) drill_name
    ∙ ap (λ S. stream_named S drill_name) (asked_alone reaches h number count lawful below are)
    ∙ sym (named_same nobody (journal (turns_of (generated number count))) drill_name)
    ∙ drill_named number count
