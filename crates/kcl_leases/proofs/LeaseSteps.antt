-- After a line about a lease, the changed rows and tenures are the journal's.
use Rattle.std.proofs.Common.{◌≡◌, ◌≢◌, ℕ, ◌+◌, ◌-◌, ◌<◌, ◌≤◌, Bool, true, false, List, [], ◌∷◌, ◌++◌, length, map}
use Rattle.std.proofs.Common.{slice_set, Option, Some, None, refl, sym}
use Rattle.std.proofs.Common.{ap, subst, ◌∙◌, arith}
use Rattle.std.specs.Prelude.{◌==◌, if◌then◌else◌, IfSome}
use Rattle.std.specs.Option.{option_map}
use Rattle.std.proofs.lemmas.List.{length-set, length_push}
use Rattle.kds_base.specs.declared.lease_key.Checkpoint.TheVariants.{TrimHorizon, At}
use Rattle.kds_base.specs.declared.lease_key.ShardRef.{ShardRef}
use Rattle.kds_base.proofs.Facts.{equal_so}
use Rattle.kds_defs.specs.declared.reply.Row.{Row}
use Rattle.kds_defs.specs.Journal.{Journal, Line}
use Rattle.kds_defs.specs.Keys.{same_key}
use Rattle.kds_defs.specs.Leases.{TenureState, checkpoint_in, row, row_after, row_keys, row_keys_after, taken_count}
use Rattle.kds_defs.specs.Leases.{taken_count_after, tenure, tenure_after}
use Rattle.kds_defs.specs.StreamCommands.{last_number}
use Rattle.kds_defs.proofs.Keys.{same_ref}
use Rattle.kcl_book.specs.Tenures.{TenureValue, tenure_at}
use Rattle.kcl_table.specs.Rows.{changed, row_of, with_row, without_row}
use Rattle.kcl_leases.proofs.RowChanges.{distinct_changed, distinct_with, distinct_without, keys_changed, row_changed}
use Rattle.kcl_leases.proofs.RowChanges.{row_with, row_without}
use Rattle.kcl_leases.proofs.TenureChanges.{tenure_push, tenure_set}
use Rattle.kcl_leases.specs.Standing.{AreBounded, AreDistinct, Facing, IsGiven, KeepsShards, Stands, kept, leases}

-- A line about a lease at the clock of `s` changes no shard.
abbrev pub LeaseLines : Facing → Type 0
LeaseLines s = KeepsShards s.clock s.shows

-- The book has the journal's tenures by number, at most `last_number`, each given at most what it read.
pub record HasTenures (log : Journal) (ts : List TenureValue) : Type 0 where
  pub count_is : taken_count log ≡ length ts
  pub tenure_is : (t : ℕ) → option_map kept (tenure log t) ≡ tenure_at ts t
  pub few : length ts ≤ last_number
  pub given : (t : ℕ) → IfSome (tenure log t) IsGiven

-- The table has the journal's rows in order, with distinct keys, and no checkpoint at the greatest number.
pub record HasRows (log : Journal) (rows : List Row) : Type 0 where
  pub keys_are : row_keys log ≡ map (λ (r : Row). r.key) rows
  pub row_is : (key : ShardRef) → row log key ≡ row_of rows key
  pub distinct : AreDistinct rows
  pub bounded : AreBounded rows

pub stands_of : (s : Facing) (rows : List Row) (ts : List TenureValue) (log : Journal) → s.shows log → HasRows log rows
    → HasTenures log ts → Stands (leases s rows ts) log
stands_of s rows ts log shows rs tenures = record {
  shows = shows;
  keys_are = rs.keys_are;
  row_is = rs.row_is;
  distinct = rs.distinct;
  bounded = rs.bounded;
  count_is = tenures.count_is;
  few = tenures.few;
  tenure_is = tenures.tenure_is;
  given = tenures.given;
}

pub rows_of : (s : Facing) (rows : List Row) (ts : List TenureValue) (log : Journal) → Stands (leases s rows ts) log
    → HasRows log rows
rows_of s rows ts log st =
    record { keys_are = st.keys_are; row_is = st.row_is; distinct = st.distinct; bounded = st.bounded }

pub tenures_of : (s : Facing) (rows : List Row) (ts : List TenureValue) (log : Journal) → Stands (leases s rows ts) log
    → HasTenures log ts
tenures_of s rows ts log st =
    record { count_is = st.count_is; few = st.few; tenure_is = st.tenure_is; given = st.given }

-- ---- Lines that leave the rows, or the tenures, as they were

pub same_rows : (log : Journal) (line : Line) (rows : List Row)
    → ((ks : List ShardRef) → row_keys_after line.what ks ≡ ks)
    → ((k : ShardRef) (o : Option Row) → row_after log line line.what k o ≡ o) → HasRows log rows
    → HasRows (line ∷ log) rows
same_rows log line rows keys same rs = record {
  keys_are = keys (row_keys log) ∙ rs.keys_are;
  row_is = λ k. same k (row log k) ∙ rs.row_is k;
  distinct = rs.distinct;
  bounded = rs.bounded;
}

pub same_tenures : (log : Journal) (line : Line) (ts : List TenureValue) → ((n : ℕ) → taken_count_after line.what n ≡ n)
    → ((t : ℕ) (o : Option TenureState) → tenure_after log line line.what t o ≡ o) → HasTenures log ts
    → HasTenures (line ∷ log) ts
same_tenures log line ts count same tenures = record {
  count_is = count (taken_count log) ∙ tenures.count_is;
  few = tenures.few;
  tenure_is = λ t. ap (option_map kept) (same t (tenure log t)) ∙ tenures.tenure_is t;
  given = λ t. subst (λ o. IfSome o IsGiven) (sym (same t (tenure log t))) (tenures.given t);
}

-- ---- A row is changed, made or removed

bound_if : (f : Row → Row) (key k : ShardRef) (rows : List Row) (b : Bool) → same_key key k ≡ b → AreBounded rows
    → ((r : Row) → row_of rows key ≡ Some r → (f r).checkpoint ≢ At last_number)
    → checkpoint_in (if b then option_map f (row_of rows k) else row_of rows k) ≢ At last_number
bound_if f key k rows false same bounded new = bounded k
bound_if f key k rows true same bounded new = cases (row_of rows k) (ap (row_of rows) (same_ref key k same))
  where
    horizon : TrimHorizon ≢ At last_number
    horizon = λ e. cc

    cases : (o : Option Row) → row_of rows key ≡ o → checkpoint_in (option_map f o) ≢ At last_number
    cases None e = horizon
    cases (Some r) e = new r e

pub changed_rows : (log : Journal) (line : Line) (rows : List Row) (f : Row → Row) (key : ShardRef)
    → ((r : Row) → (f r).key ≡ r.key) → ((ks : List ShardRef) → row_keys_after line.what ks ≡ ks)
    → ((k : ShardRef) (o : Option Row)
    → row_after log line line.what k o ≡ (if same_key key k then option_map f o else o))
    → ((r : Row) → row_of rows key ≡ Some r → (f r).checkpoint ≢ At last_number)
    → HasRows log rows → HasRows (line ∷ log) (changed f key rows)
changed_rows log line rows f key keeps keys after new rs = record {
  keys_are = keys (row_keys log) ∙ rs.keys_are ∙ sym (keys_changed f keeps key rows);
  row_is = λ k. after k (row log k) ∙ ap (λ o. if same_key key k then option_map f o else o) (rs.row_is k)
      ∙ sym (row_changed f keeps key k rows);
  distinct = distinct_changed f keeps key rows rs.distinct;
  bounded = λ k. subst (λ o. checkpoint_in o ≢ At last_number) (sym (row_changed f keeps key k rows))
      (bound_if f key k rows (same_key key k) refl rs.bounded new);
}

pub made_rows : (log : Journal) (line : Line) (rows : List Row) (new : Row) → row_of rows new.key ≡ None
    → row_keys_after line.what (row_keys log) ≡ map (λ (r : Row). r.key) (with_row new rows)
    → ((k : ShardRef) (o : Option Row)
    → row_after log line line.what k o ≡ (if same_key new.key k then Some new else o))
    → new.checkpoint ≢ At last_number
    → HasRows log rows → HasRows (line ∷ log) (with_row new rows)
made_rows log line rows new none keys after bound rs = record {
  keys_are = keys;
  row_is = λ k. after k (row log k) ∙ ap (λ o. if same_key new.key k then Some new else o) (rs.row_is k)
      ∙ sym (row_with new k rows none);
  distinct = distinct_with new rows none rs.distinct;
  bounded = λ k. subst (λ o. checkpoint_in o ≢ At last_number) (sym (row_with new k rows none))
      (cases k (same_key new.key k));
}
  where
    cases : (k : ShardRef) (b : Bool) → checkpoint_in (if b then Some new else row_of rows k) ≢ At last_number
    cases k true = bound
    cases k false = rs.bounded k

pub removed_rows : (log : Journal) (line : Line) (rows : List Row) (key : ShardRef)
    → row_keys_after line.what (row_keys log) ≡ map (λ (r : Row). r.key) (without_row key rows)
    → ((k : ShardRef) (o : Option Row) → row_after log line line.what k o ≡ (if same_key key k then None else o))
    → HasRows log rows → HasRows (line ∷ log) (without_row key rows)
removed_rows log line rows key keys after rs = record {
  keys_are = keys;
  row_is = λ k. after k (row log k) ∙ ap (λ o. if same_key key k then None else o) (rs.row_is k)
      ∙ sym (row_without key k rows rs.distinct);
  distinct = distinct_without key rows rs.distinct;
  bounded = λ k. subst (λ o. checkpoint_in o ≢ At last_number) (sym (row_without key k rows rs.distinct))
      (cases k (same_key key k));
}
  where
    horizon : TrimHorizon ≢ At last_number
    horizon = λ e. cc

    cases : (k : ShardRef) (b : Bool) → checkpoint_in (if b then None else row_of rows k) ≢ At last_number
    cases k true = horizon
    cases k false = rs.bounded k

-- ---- A tenure goes on, or begins

map_if : (b : Bool) (g : TenureState → TenureState) (T : TenureState) (o : Option TenureState) (y : TenureValue)
    (x : Option TenureValue) → (b ≡ true → o ≡ Some T) → y ≡ kept (g T) → option_map kept o ≡ x
    → option_map kept (if b then option_map g o else o) ≡ (if b then Some y else x)
map_if true g T o y x here is same = ap (λ p. option_map kept (option_map g p)) (here refl) ∙ ap Some (sym is)
map_if false g T o y x here is same = same

given_if : (b : Bool) (g : TenureState → TenureState) (T : TenureState) (o : Option TenureState)
    → (b ≡ true → o ≡ Some T) → IsGiven (g T) → IfSome o IsGiven → IfSome (if b then option_map g o else o) IsGiven
given_if true g T o here new old = subst (λ p. IfSome (option_map g p) IsGiven) (sym (here refl)) new
given_if false g T o here new old = old

pub tenure_goes_on : (log : Journal) (line : Line) (ts : List TenureValue) (t : ℕ) (g : TenureState → TenureState)
    (T : TenureState) (y : TenureValue)
    → ((n : ℕ) → taken_count_after line.what n ≡ n)
    → ((u : ℕ) (o : Option TenureState) → tenure_after log line line.what u o ≡ (if t == u then option_map g o else o))
    → tenure log t ≡ Some T → y ≡ kept (g T) → IsGiven (g T)
    → HasTenures log ts → HasTenures (line ∷ log) (slice_set ts (t - 1) y)
tenure_goes_on log line ts t g T y count after is_at is new tenures =
    let here : (u : ℕ) → (t == u) ≡ true → tenure log u ≡ Some T =
    λ u e. ap (tenure log) (sym (equal_so t u e)) ∙ is_at in
    let there : tenure_at ts t ≡ Some (kept T) = sym (tenures.tenure_is t) ∙ ap (option_map kept) is_at in
    record {
      count_is = count (taken_count log) ∙ tenures.count_is ∙ sym (length-set ts (t - 1) y);
      few = subst (λ n. n ≤ last_number) (sym (length-set ts (t - 1) y)) tenures.few;
      tenure_is = λ u.
          ap (option_map kept) (after u (tenure log u))
          ∙ map_if (t == u) g T (tenure log u) y (tenure_at ts u) (here u) is (tenures.tenure_is u)
          ∙ sym (tenure_set ts t u (kept T) y there);
      given = λ u. subst (λ o. IfSome o IsGiven) (sym (after u (tenure log u)))
          (given_if (t == u) g T (tenure log u) (here u) new (tenures.given u));
    }

begin_if : (b : Bool) (T : TenureState) (o : Option TenureState) (y : TenureValue) (x : Option TenureValue) → y ≡ kept T
    → option_map kept o ≡ x → option_map kept (if b then Some T else o) ≡ (if b then Some y else x)
begin_if true T o y x is same = ap Some (sym is)
begin_if false T o y x is same = same

begun_given : (b : Bool) (T : TenureState) (o : Option TenureState) → IsGiven T → IfSome o IsGiven
    → IfSome (if b then Some T else o) IsGiven
begun_given true T o new old = new
begun_given false T o new old = old

pub tenure_begins : (log : Journal) (line : Line) (ts : List TenureValue) (T : TenureState) (y : TenureValue)
    → ((n : ℕ) → taken_count_after line.what n ≡ n + 1)
    → ((u : ℕ) (o : Option TenureState)
    → tenure_after log line line.what u o ≡ (if u == taken_count log + 1 then Some T else o))
    → y ≡ kept T → IsGiven T → length ts < last_number
    → HasTenures log ts → HasTenures (line ∷ log) (ts ++ (y ∷ []))
tenure_begins log line ts T y count after is new room tenures = record {
  count_is = count (taken_count log) ∙ ap (λ n. n + 1) tenures.count_is ∙ sym (length_push ts y);
  few = let longer = length_push ts y in omega arith;
  tenure_is = λ u.
      ap (option_map kept) (after u (tenure log u))
      ∙ begin_if (u == taken_count log + 1) T (tenure log u) y (tenure_at ts u) is (tenures.tenure_is u)
      ∙ ap (λ n. if u == n + 1 then Some y else tenure_at ts u) tenures.count_is
      ∙ sym (tenure_push ts u y);
  given = λ u. subst (λ o. IfSome o IsGiven) (sym (after u (tenure log u)))
      (begun_given (u == taken_count log + 1) T (tenure log u) new (tenures.given u));
}
