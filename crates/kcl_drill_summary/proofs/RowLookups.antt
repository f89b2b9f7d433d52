-- The first row with a key among all rows of the journal (`rows`) is the row of this key (`row`).
use Rattle.std.proofs.Common.{◌≡◌, ◌+◌, Bool, true, false, List, [], ◌∷◌, Option, Some, None, refl, sym, ap, ◌∙◌}
use Rattle.std.specs.Prelude.{cond, ◌||◌, if◌then◌else◌}
use Rattle.std.specs.Option.{option_map}
use Rattle.std.specs.List.{cons_option}
use Rattle.kds_base.specs.declared.lease_key.ShardRef.{ShardRef}
use Rattle.kds_defs.specs.declared.entry.Entry.{Entry}
use Rattle.kds_defs.specs.declared.entry.Entry.TheVariants as entry
use Rattle.kds_defs.specs.declared.reply.Row.{Row}
use Rattle.kds_defs.specs.Journal.{Line, Journal}
use Rattle.kds_defs.specs.Keys.{is_before, same_key}
use Rattle.kds_defs.specs.Leases.{row, row_after, rows, rows_at, row_keys, row_keys_after, with_key, without_key}
use Rattle.kds_defs.specs.Leases.{key_of, is_key, made_row, taken_count, taken_row, renewed_row, freed_row, marked_row}
use Rattle.kds_defs.proofs.Keys.{same_ref}
use Rattle.kcl_drill_summary.specs.Counting.{row_among}

mapped : (f : Row → Row) (o : Option Row) (y : Row) → option_map f o ≡ Some y → (x : Row) × (o ≡ Some x) × (f x ≡ y)
mapped f None y h = absurd cc
mapped f (Some x) y h = (x, refl, cc)

-- ---- The row of a key has this key

changed : (f : Row → Row) (b : Bool) (o : Option Row) (key : ShardRef) (r : Row) → ((x : Row) → (f x).key ≡ x.key)
    → ((x : Row) → o ≡ Some x → x.key ≡ key) → (if b then option_map f o else o) ≡ Some r → r.key ≡ key
changed f true o key r keeps old there = let m = mapped f o r there in
    ap (λ (x : Row). x.key) (sym m.2) ∙ keeps m.0 ∙ old m.0 m.1
changed f false o key r keeps old there = old r there

made : (b : Bool) (x : Row) (o : Option Row) (key : ShardRef) (r : Row) → x.key ≡ key
    → ((x : Row) → o ≡ Some x → x.key ≡ key) → (if b then Some x else o) ≡ Some r → r.key ≡ key
made true x o key r is old there = let e : x ≡ r = cc in ap (λ (y : Row). y.key) (sym e) ∙ is
made false x o key r is old there = old r there

cut : (b : Bool) (o : Option Row) (key : ShardRef) (r : Row) → ((x : Row) → o ≡ Some x → x.key ≡ key)
    → (if b then None else o) ≡ Some r → r.key ≡ key
cut true o key r old there = absurd cc
cut false o key r old there = old r there

keyed_after : (log : Journal) (line : Line) (e : Entry) (key : ShardRef) (o : Option Row) (r : Row)
    → ((x : Row) → o ≡ Some x → x.key ≡ key) → row_after log line e key o ≡ Some r → r.key ≡ key
keyed_after log line (entry.LeaseMade k origin) key o r old there =
    made (same_key k key) (made_row log line.clock key origin) o key r refl old there
keyed_after log line (entry.LeaseCut k counter) key o r old there = cut (same_key k key) o key r old there
keyed_after log line (entry.Taken k tenure counter owner) key o r old there =
    changed (taken_row (taken_count log + 1) owner) (same_key k key) o key r (λ x. refl) old there
keyed_after log line (entry.Renewed tenure counter) key o r old there =
    changed renewed_row (is_key (key_of log tenure) key) o key r (λ x. refl) old there
keyed_after log line (entry.Freed tenure counter) key o r old there =
    changed freed_row (is_key (key_of log tenure) key) o key r (λ x. refl) old there
keyed_after log line (entry.Marked tenure counter target) key o r old there =
    changed (marked_row target) (is_key (key_of log tenure) key) o key r (λ x. refl) old there
keyed_after log line _ key o r old there = old r there

keyed : (log : Journal) (key : ShardRef) (r : Row) → row log key ≡ Some r → r.key ≡ key
keyed [] key r there = absurd cc
keyed (line ∷ log) key r there = keyed_after log line line.what key (row log key) r (keyed log key) there

-- ---- The key of a row is among the keys of all rows

-- Whether the key is in the list.
abbrev is_in : ShardRef → List ShardRef → Bool
is_in key [] = false
is_in key (k ∷ ks) = same_key k key || is_in key ks

in_with : (key k : ShardRef) (ks : List ShardRef) → is_in key (with_key k ks) ≡ (same_key k key || is_in key ks)
in_with key k [] = refl
in_with key k (j ∷ ks) = either (is_before k j) (in_with key k ks)
  where
    swap : (a b c : Bool) → (a || (b || c)) ≡ (b || (a || c))
    swap true true c = refl
    swap true false c = refl
    swap false b c = refl

    either : (b : Bool) → is_in key (with_key k ks) ≡ (same_key k key || is_in key ks)
        → is_in key (if b then k ∷ j ∷ ks else j ∷ with_key k ks) ≡ (same_key k key || (same_key j key || is_in key ks))
    either true rest = refl
    either false rest = ap (λ b. same_key j key || b) rest ∙ swap (same_key j key) (same_key k key) (is_in key ks)

in_without : (key k : ShardRef) (ks : List ShardRef) → same_key k key ≡ false → is_in key ks ≡ true
    → is_in key (without_key k ks) ≡ true
in_without key k [] other is = absurd cc
in_without key k (j ∷ ks) other is = either (same_key j k) refl (in_without key k ks other) is
  where
    either : (b : Bool) → same_key j k ≡ b → (is_in key ks ≡ true → is_in key (without_key k ks) ≡ true)
        → (same_key j key || is_in key ks) ≡ true → is_in key (if b then ks else j ∷ without_key k ks) ≡ true
    either true same rest is = sym (ap (λ b. b || is_in key ks) (ap (λ i. same_key i key) (same_ref j k same) ∙ other))
        ∙ is
    either false same rest is = or_else (same_key j key) (is_in key ks) (is_in key (without_key k ks)) rest is
      where
        or_else : (a b d : Bool) → (b ≡ true → d ≡ true) → (a || b) ≡ true → (a || d) ≡ true
        or_else true b d f h = refl
        or_else false b d f h = f h

some_if : (f : Row → Row) (o : Option Row) (b : Bool) (r : Row) (P : Type 0) → ((x : Row) → o ≡ Some x → P)
    → (if b then option_map f o else o) ≡ Some r → P
some_if f o true r P so there = let m = mapped f o r there in so m.0 m.1
some_if f o false r P so there = so r there

in_by : (log : Journal) (line : Line) (e : Entry) (key : ShardRef) (o : Option Row) (r : Row) (ks : List ShardRef)
    → ((x : Row) → o ≡ Some x → is_in key ks ≡ true) → row_after log line e key o ≡ Some r
    → is_in key (row_keys_after e ks) ≡ true
in_by log line (entry.LeaseMade k origin) key o r ks so there = in_with key k ks ∙ either _ (same_key k key) there
  where
    either : (x : Row) (b : Bool) → (if b then Some x else o) ≡ Some r → (b || is_in key ks) ≡ true
    either x true h = refl
    either x false h = so r h
in_by log line (entry.LeaseCut k counter) key o r ks so there = either (same_key k key) refl there
  where
    either : (b : Bool) → same_key k key ≡ b → (if b then None else o) ≡ Some r → is_in key (without_key k ks) ≡ true
    either true is h = absurd cc
    either false is h = in_without key k ks is (so r h)
in_by log line (entry.Taken k tenure counter owner) key o r ks so there =
    some_if (taken_row (taken_count log + 1) owner) o (same_key k key) r _ so there
in_by log line (entry.Renewed tenure counter) key o r ks so there =
    some_if renewed_row o (is_key (key_of log tenure) key) r _ so there
in_by log line (entry.Freed tenure counter) key o r ks so there =
    some_if freed_row o (is_key (key_of log tenure) key) r _ so there
in_by log line (entry.Marked tenure counter target) key o r ks so there =
    some_if (marked_row target) o (is_key (key_of log tenure) key) r _ so there
in_by log line _ key o r ks so there = so r there

in_keys : (log : Journal) (key : ShardRef) (r : Row) → row log key ≡ Some r → is_in key (row_keys log) ≡ true
in_keys [] key r there = absurd cc
in_keys (line ∷ log) key r there = in_by log line line.what key (row log key) r (row_keys log) (in_keys log key) there

-- ---- The first row with the key

none_either : (b : Bool) (o : Option Row) → o ≡ None → (if b then o else None) ≡ o
none_either true o is = refl
none_either false o is = sym is

first_head : (log : Journal) (k key : ShardRef) (ks : List ShardRef) (o : Option Row) (b : Bool) → row log k ≡ o
    → same_key k key ≡ b → row_among (rows_at log ks) key ≡ (if is_in key ks then row log key else None)
    → row_among (cons_option o (rows_at log ks)) key ≡ (if b || is_in key ks then row log key else None)
first_head log k key ks None true is same rest =
    let gone : row log key ≡ None = sym (ap (row log) (same_ref k key same)) ∙ is in
    rest ∙ none_either (is_in key ks) (row log key) gone
first_head log k key ks None false is same rest = rest
first_head log k key ks (Some r) true is same rest =
    let has : same_key r.key key ≡ true = ap (λ j. same_key j key) (keyed log k r is) ∙ same in
    ap (λ b. cond b (Some r) (row_among (rows_at log ks) key)) has ∙ sym is ∙ ap (row log) (same_ref k key same)
first_head log k key ks (Some r) false is same rest =
    let has : same_key r.key key ≡ false = ap (λ j. same_key j key) (keyed log k r is) ∙ same in
    ap (λ b. cond b (Some r) (row_among (rows_at log ks) key)) has ∙ rest

first_among : (log : Journal) (ks : List ShardRef) (key : ShardRef)
    → row_among (rows_at log ks) key ≡ (if is_in key ks then row log key else None)
first_among log [] key = refl
first_among log (k ∷ ks) key = first_head log k key ks (row log k) (same_key k key) refl refl (first_among log ks key)

pub row_found : (log : Journal) (key : ShardRef) → row_among (rows log) key ≡ row log key
row_found log key = first_among log (row_keys log) key ∙ either (row log key) refl
  where
    either : (o : Option Row) → row log key ≡ o → (if is_in key (row_keys log) then row log key else None) ≡ row log key
    either None is = none_either (is_in key (row_keys log)) (row log key) is
    either (Some r) is = ap (λ b. if b then row log key else None) (in_keys log key r is)
