-- No line of a journal has a line feed in its text.
use Rattle.std.proofs.Common.{◌≡◌, ℕ, ◌<◌, ◌^◌, List, [], ◌∷◌, ◌++◌, Bool, true, false, refl, arith, rules, codes}
use Rattle.std.proofs.Common.{decimal}
use Rattle.std.specs.Prelude.{◌==◌, not}
use Rattle.std.specs.List.{AllByRecursion, list_all}
use Rattle.kds_base.specs.declared.lease_key.ShardRef.{ShardRef}
use Rattle.kds_defs.specs.declared.command.Origin.{Origin}
use Rattle.kds_defs.specs.declared.command.Origin.TheVariants as origin
use Rattle.kds_defs.specs.declared.command.Target.{Target}
use Rattle.kds_defs.specs.declared.command.Target.TheVariants as target
use Rattle.kds_defs.specs.declared.entry.Entry.{Entry}
use Rattle.kds_defs.specs.declared.entry.Entry.TheVariants as entry
use Rattle.kcl_script_fields.specs.Commands.{IsKey, IsTarget, target_text}
use Rattle.kcl_script_fields.specs.Fields.{Lacks, key_text}
use Rattle.kcl_script_fields.specs.Origins.{IsOrigin, origin_text}
use Rattle.kcl_script_fields.proofs.Forms.{decimal_lacks}
use Rattle.kcl_script_fields.proofs.Parts.{kind_lacks, lacks-append}
use Rattle.kcl_journal.specs.declared.line.EntryLine.{EntryLine}
use Rattle.kcl_journal.specs.Entries.{end_spelling, ended_text, entry_spelling, entry_text, numbers_text, sizes_text_by}
use Rattle.kcl_journal.specs.Entries.{switch_text}
use Rattle.kcl_journal.specs.Ranges.{AreSizesBy, Is64, IsEntryLine, IsTellable}
use Rattle.kcl_journal.proofs.TextForms.{hash_without, name_without}

-- Whether the byte isn't a line feed.
abbrev not_feed : ℕ → Bool
not_feed b = not (b == 10)

word : (text : List ℕ) → list_all not_feed text ≡ true → Lacks 10 text
word text h = kind_lacks not_feed 10 text refl h

after : (a b : List ℕ) → list_all not_feed a ≡ true → Lacks 10 b → Lacks 10 (a ++ b)
after a b h l = lacks-append 10 a b (word a h) l

spaced : (a b : List ℕ) → Lacks 10 a → Lacks 10 b → Lacks 10 (a ++ 32 ∷ b)
spaced a b l m = lacks-append 10 a (32 ∷ b) l (refl, m)

number : (n : ℕ) → Is64 n → Lacks 10 (decimal n)
number n small = decimal_lacks 10 n refl small

key : (k : ShardRef) → IsKey k → Lacks 10 (key_text k)
key k v = lacks-append 10 (decimal k.stream) (47 ∷ decimal k.shard) (number k.stream v.0) (refl, number k.shard v.1)

sizes : (first : Bool) (bytes key_bytes : ℕ) → AreSizesBy first bytes key_bytes
    → Lacks 10 (sizes_text_by first (bytes, key_bytes))
sizes true bytes key_bytes v = number bytes (omega (arith, v.0))
sizes false bytes key_bytes v =
    spaced (decimal bytes) (decimal key_bytes) (number bytes (omega (arith, v.1)))
    (number key_bytes (omega (arith, v.0.1)))

switch : (is_on : Bool) → Lacks 10 (switch_text is_on)
switch true = word (codes "on") refl
switch false = word (codes "off") refl

from_text : (beginning : Origin) → IsOrigin beginning → Lacks 10 (origin_text beginning)
from_text origin.TrimHorizon v = tt
from_text origin.Latest v = word (codes " latest") refl
from_text (origin.Time m) v = after (codes " time ") (decimal m) refl (number m (omega arith))

target_lacks : (goal : Target) → IsTarget goal → Lacks 10 (target_text goal)
target_lacks target.End v = word (codes "end") refl
target_lacks (target.At q) v = number q v

end_or_more : (ended : Bool) → Lacks 10 (ended_text ended)
end_or_more true = word (codes "end") refl
end_or_more false = word (codes "more") refl

batch : (ns : List ℕ) → AllByRecursion Is64 ns → Lacks 10 (numbers_text ns)
batch [] v = tt
batch (n ∷ ns) v = lacks-append 10 (32 ∷ decimal n) (numbers_text ns) (refl, number n v.0) (batch ns v.1)

what_lacks : (v : ℕ) (e : Entry) → IsTellable v e → Lacks 10 (entry_text v e)
what_lacks v (entry.Gone s) t = after (codes "gone ") _ refl (number s t)
what_lacks v _ t = search (
  rules,
  spaced,
  number,
  key,
  sizes,
  switch,
  from_text,
  target_lacks,
  end_or_more,
  batch,
  name_without,
  hash_without,
  lacks-append,
)

pub entry_lacks : (v : ℕ) (line : EntryLine) → IsEntryLine v line → Lacks 10 (entry_spelling v line)
entry_lacks v line t =
    spaced (decimal line.clock) _ (number line.clock (omega (arith, t.clock)))
    (spaced (decimal line.by) _ (number line.by (omega (arith, t.by))) (what_lacks v line.what t.what))

pub end_lacks : (clock : ℕ) → clock < 2 ^ 62 → Lacks 10 (end_spelling clock)
end_lacks clock small = after (codes "end ") (decimal clock) refl (number clock (omega arith))
