-- A judge's model of a journal, the journals that it represents, and what a judgement does to it.
use Rattle.std.specs.Prelude.{ℕ, ◌≡◌, List, ◌∷◌, OnOk, OnErr}
use Rattle.kds_defs.specs.declared.entry.Entry.{Entry}
use Rattle.kds_defs.specs.declared.reply.Row.{Row}
use Rattle.kds_defs.specs.Journal.{Journal, Line}
use Rattle.kcl_laws.specs.ShownLines.{entry_line}
use Rattle.kds_defs.specs.Legal.{last_clock, told}
use Rattle.kcl_book.specs.Tenures.{TenureValue}
use Rattle.kcl_leases.specs.Standing.{LeasesValue, over}
use Rattle.kcl_leases.specs.Standing as holding
use Rattle.kcl_audit_streams.specs.Verdict.{Verdict, judged}
use Rattle.kcl_audit_streams.specs.Standing.{Shows, StreamsValue}

-- ---- Rows and tenures with the streams

-- The streams, rows and tenures represent the journal.
abbrev pub HoldBeside : (w : StreamsValue) (rows : List Row) (ts : List TenureValue) (log : Journal) → Type 0
HoldBeside w rows ts log = holding.Stands (over w.clock (Shows w) rows ts) log

-- Each journal that the old rows and tenures represent beside `w`, the new ones represent too.
abbrev pub Keeps : (w : StreamsValue) (rows : List Row) (ts : List TenureValue) (rows' : List Row)
    (ts' : List TenureValue) → Type 0
Keeps w rows ts rows' ts' = (log : Journal) → HoldBeside w rows ts log → HoldBeside w rows' ts' log

-- The model after a judgement represents the journal with the line if the verdict is Ok, else `log` itself.
abbrev pub After : (v : Verdict) (new : LeasesValue) (line : Line) (log : Journal) → Type 0
After v new line log = OnOk v (holding.Stands new (line ∷ log)) × OnErr v (holding.Stands new log)

-- `v` is the correct verdict on the entry after `log`, and `new` is the model after it.
abbrev pub Judges : (old new : LeasesValue) (actor : ℕ) (entry : Entry) (v : Verdict) (log : Journal) → Type 0
Judges old new actor entry v log =
    (v ≡ judged (told log (entry_line old.shards.clock actor entry) entry) entry)
    × After v new (entry_line old.shards.clock actor entry) log

-- The judgement is correct for each journal that `w`, `rows` and `ts` represent.
abbrev pub JudgesBeside : (w : StreamsValue) (rows : List Row) (ts : List TenureValue) (rows' : List Row)
    (ts' : List TenureValue) (actor : ℕ) (entry : Entry) (v : Verdict) → Type 0
JudgesBeside w rows ts rows' ts' actor entry v =
    (log : Journal) → HoldBeside w rows ts log
    → Judges (over w.clock (Shows w) rows ts) (over w.clock (Shows w) rows' ts') actor entry v log

-- ---- A judge

-- A judge as contracts see it: streams with their clock, rows and tenures.
pub record JudgeValue : Type 0 where
  pub streams : StreamsValue
  pub rows : List Row
  pub tenures : List TenureValue

-- The judge with these streams, rows and tenures.
abbrev pub judge : (w : StreamsValue) (rows : List Row) (ts : List TenureValue) → JudgeValue
judge w rows ts = record { streams = w; rows = rows; tenures = ts }

-- The judge has the streams, rows and tenures of the journal.
abbrev pub Holds : (a : JudgeValue) (log : Journal) → Type 0
Holds a log = HoldBeside a.streams a.rows a.tenures log

-- The judge represents the journal and has the clock of its newest line, or 0 without lines.
abbrev pub Stands : (a : JudgeValue) (log : Journal) → Type 0
Stands a log = (a.streams.clock ≡ last_clock log) × Holds a log
