-- A journal as its text shows it: a put's key and payload only by their lengths, here as zero bytes.
use Rattle.std.specs.Prelude.{ℕ, zero, suc, List, [], ◌∷◌, map}
use Rattle.kds_defs.specs.declared.entry.Entry.{Entry}
use Rattle.kds_defs.specs.declared.entry.Entry.TheVariants as entry
use Rattle.kds_defs.specs.Journal.{Line, Journal}

-- A list of `n` zero bytes.
abbrev pub blank : (n : ℕ) → List ℕ
blank zero = []
blank (suc n) = 0 ∷ blank n

-- Zero bytes, as many as a put's key has; none for other entries.
abbrev pub blank_key : (entry : Entry) → List ℕ
blank_key (entry.Put s sh number hash bytes key_bytes) = blank key_bytes
blank_key _ = []

-- Zero bytes, as many as a put's payload has; none for other entries.
abbrev pub blank_payload : (entry : Entry) → List ℕ
blank_payload (entry.Put s sh number hash bytes key_bytes) = blank bytes
blank_payload _ = []

-- The line of an entry, with zero bytes of the right lengths as a put's key and payload.
abbrev pub entry_line : (clock actor : ℕ) (change : Entry) → Line
entry_line clock actor change =
    record { clock = clock; by = actor; what = change; key = blank_key change; payload = blank_payload change }

-- The line as its text shows it, with zero bytes in place of a put's key and payload.
abbrev pub shown_line : (line : Line) → Line
shown_line line = entry_line line.clock line.by line.what

-- The journal as its text shows it, with zero bytes in place of the keys and payloads of puts.
abbrev pub shown_journal : (log : Journal) → Journal
shown_journal log = map shown_line log
