-- The code reads from a parse by `clap` the task that the definitions give.
use Rattle.std.proofs.Common.{◌≡◌, ◌≤◌, ◌⊎◌, ⊎_elim, true, List, [], ◌∷◌, length, Option, Some, None, sym, ap, subst}
use Rattle.std.proofs.Common.{◌∙◌, refl, arith}
use Rattle.std.specs.Prelude.{String, string_bytes}
use Rattle.std.specs.declared.alloc.Global.{Global}
use Rattle.std.specs.List.{list_all}
use Rattle.std.specs.Option.{option_map}
use Rattle.std.specs.Box.{box_value}
use Rattle.clap.specs.Kinds.{IsAmong}
use Rattle.clap.specs.Matches.{first_value, found_of, subcommand_name_of}
use Rattle.clap.specs.Simple.{subcommand_rows, subcommand_rows_of}
use Rattle.clap.specs.Walk.{Row, Text, first_of, rows_of}
use Rattle.clap.specs.Words.{Kinds, fault_of, subcommand_of}
use Rattle.clap.specs.declared.error.kind.ErrorKind.{ErrorKind}
use Rattle.clap.specs.declared.error.kind.ErrorKind.TheVariants as kind
use Rattle.clap.specs.declared.parser.matches.ArgMatches.{ArgMatches}
use Rattle.clap.specs.declared.parser.matches.ArgMatches.TheViews.{out-ArgMatches, out-SubCommand}
use Rattle.clap.specs.declared.parser.matches.Found.{Found}
use Rattle.clap.proofs.WalkLemmas.{first_value-rows}
use Rattle.kds_cli_words.specs.Apps.{kds_app}
use Rattle.kds_cli_words.specs.Words.{task_of, texts_of}
use Rattle.kds_cli_words.specs.declared.task.Task.{Task}
use Rattle.kds_cli_words.specs.Parsed.{is_word, task_in, told_with}
use Rattle.kds_cli_words.proofs.Exact.{Exact, exact, read}
use Rattle.kds_cli_words.proofs.Seen.{seen}

-- ---- The name and the values in the result of a parse

same_values : (name : Text) (get look : Text → Option Text) → ((id : Text) → get id ≡ look id)
    → told_with name get ≡ told_with name look
same_values name get look same = λ i. told_with name (λ id. same id i)

met_by : (o : Option (Text × List Row)) (name : Text) (rows : List Row) → Some name ≡ option_map (λ p. p.0) o
    → Some rows ≡ option_map (λ p. p.1) o
    → told_with name (λ id. first_of id rows) ≡ task_in o
met_by None name rows h g = absurd cc
met_by (Some p) name rows h g =
    let n : name ≡ p.0 = cc (h) in
    let r : rows ≡ p.1 = cc (g) in
    λ i. told_with (n i) (λ id. first_of id (r i))

twice : {A B C : Type 0} (f : A → B) (g : B → C) (o : Option A)
    → option_map (λ a. g (f a)) o ≡ option_map g (option_map f o)
twice f g None = refl
twice f g (Some a) = refl

name_met : (m : ArgMatches) → subcommand_name_of m ≡ option_map (λ p. p.0) (subcommand_rows_of m)
name_met m =
    twice (λ b. ((out-SubCommand (box_value b)).name.now, rows_of (found_of (out-SubCommand (box_value b)).matches)))
    (λ p. p.0) (out-ArgMatches m).subcommand

pub told_read : (m : ArgMatches) (name : Text) (f : Found) → Some name ≡ subcommand_name_of m
    → Some (rows_of f) ≡ option_map (λ p. p.1) (subcommand_rows (out-ArgMatches m).subcommand)
    → told_with name (first_value f) ≡ task_in (subcommand_rows_of m)
told_read m name f h g =
    same_values name (first_value f) (λ id. first_of id (rows_of f)) (first_value-rows f)
    ∙ met_by (subcommand_rows_of m) name (rows_of f) (h ∙ name_met m) g

-- ---- Words that `clap` may be given

exactly : (words : List (String Global)) → list_all (λ w. is_word (string_bytes w)) words ≡ true → length words ≤ 4
    → Exact (texts_of words)
exactly words are few =
    let s = seen words are in
    let n = s.1 in
    subst Exact s.2 (exact s.0 (omega arith))

pub read_words : (words : List (String Global)) → list_all (λ w. is_word (string_bytes w)) words ≡ true
    → length words ≤ 4
    → fault_of kds_app (texts_of words) ≡ [] → task_in (subcommand_of kds_app (texts_of words))
    ≡ task_of (texts_of words)
read_words words are few fine = sym (ap (λ kinds. read kinds (task_in (subcommand_of kds_app (texts_of words)))) fine)
    ∙ exactly words are few

-- Unless memory ran out, an error of `clap` means that the words ask for no task.
pub refused : (words : List (String Global)) (kinds : Kinds) (k found : ErrorKind)
    → list_all (λ w. is_word (string_bytes w)) words ≡ true → length words ≤ 4
    → kinds ≡ fault_of kds_app (texts_of words) → k ≡ found → (k ≡ kind.OutOfMemory → ⊥) → (found ≡ kind.OutOfMemory)
    ⊎ IsAmong found kinds
    → None ≡ task_of (texts_of words)
refused words kinds k found are few same is other failed =
    cases kinds (task_in (subcommand_of kds_app (texts_of words)))
    (ap (λ ks. read ks (task_in (subcommand_of kds_app (texts_of words)))) same ∙ exactly words are few) failed
  where
    cases : (ks : Kinds) (task : Option Task) → read ks task ≡ task_of (texts_of words) → (found ≡ kind.OutOfMemory)
        ⊎ IsAmong found ks
        → None ≡ task_of (texts_of words)
    cases [] task e failed = absurd (⊎_elim (λ memory. other (is ∙ memory)) (λ none. none) failed)
    cases (x ∷ ks) task e failed = e
