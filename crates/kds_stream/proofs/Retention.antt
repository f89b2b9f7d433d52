-- Changes of the retention: the answer, what the stream shows after them, and its invariant.
use Rattle.std.proofs.Common.{◌≡◌, ℕ, ◌*◌, max, ◌≤◌, Bool, true, false, [], ◌∷◌, length, Option, refl, sym, ap, ◌∙◌}
use Rattle.std.proofs.Common.{arith}
use Rattle.std.specs.Prelude.{◌==◌, nat_lt, if◌then◌else◌, Ok, Err}
use Rattle.kds_base.proofs.Facts.{is_itself, chosen}
use Rattle.kds_defs.proofs.Decisions.{after_accepted, after_refused, passed_if, refused_if}
use Rattle.kds_defs.specs.declared.entry.Entry.TheVariants as entry
use Rattle.kds_defs.specs.declared.limits.TheConstants.{HOUR}
use Rattle.kds_defs.specs.declared.reply.Refusal.TheVariants as refusal
use Rattle.kds_defs.specs.declared.reply.Reply.TheVariants as reply
use Rattle.kds_defs.specs.Histories.{answer_of, lines_of}
use Rattle.kds_defs.specs.Journal.{Journal, Line, plain_line, with_lines}
use Rattle.kds_defs.specs.Lawful.{IsRetention}
use Rattle.kds_defs.specs.StreamCommands.{keep}
use Rattle.kds_defs.specs.Streams.{floor_at, floor_of, hours, trim_floor}
use Rattle.kds_stream.proofs.Clocks.{kept_higher}
use Rattle.kds_stream.proofs.Cuts.{changed_floor, cut_floor, later_floor, trims_later}
use Rattle.kds_stream.proofs.LogLemmas.{arrived_later}
use Rattle.kds_stream.proofs.Others.{kept_along}
use Rattle.kds_stream.proofs.Rates.{rated_later}
use Rattle.kds_stream.specs.Showing.{Shows}
use Rattle.kds_stream.specs.Value.{IsStream, StreamValue, cut_at, later_cut}

-- The line by which the actor `actor` changes the stream's retention to `wanted` hours.
abbrev pub kept_line : StreamValue → ℕ → ℕ → Line
kept_line v actor wanted = plain_line v.clock actor (entry.Kept v.no wanted)

module _ (v : StreamValue) (log : Journal) (actor wanted : ℕ) (raise : Bool) (shown : Shows v log) where
  tested : (b : Bool) → b ≡ (if raise then nat_lt wanted v.hours else nat_lt v.hours wanted)
      → (if raise then nat_lt wanted (hours log v.no) else nat_lt (hours log v.no) wanted) ≡ b
  tested b is = ap (λ n. if raise then nat_lt wanted n else nat_lt n wanted) shown.stored.hours_are ∙ sym is

  -- A raise that would lower the retention, or a lowering that would raise it, is refused.
  pub keep_refused : true ≡ (if raise then nat_lt wanted v.hours else nat_lt v.hours wanted)
      → (Err refusal.BadRetention ≡ answer_of (keep log v.clock actor v.no wanted raise))
      × Shows v (with_lines (lines_of (keep log v.clock actor v.no wanted raise)) log)
  keep_refused is = after_refused _ refusal.BadRetention log (λ l. Shows v l) (refused_if _ _ _ (tested true is)) shown

  lasts : hours (kept_line v actor wanted ∷ log) v.no ≡ wanted
  lasts = chosen (v.no == v.no) wanted (hours log v.no) (is_itself v.no)

  floor_kept : trim_floor (kept_line v actor wanted ∷ log) v.clock v.no
      ≡ floor_of (later_cut v.cut (cut_at v.clock wanted))
  floor_kept =
      changed_floor log (kept_line v actor wanted) v.no shown.stored.was shown.stored.was
      ∙ ap (λ n. max n (floor_at v.clock (hours (kept_line v actor wanted ∷ log) v.no * HOUR))) shown.stored.floor_is
      ∙ ap (λ h. max (floor_of v.cut) (floor_at v.clock (h * HOUR))) lasts
      ∙ ap (λ n. max (floor_of v.cut) n) (sym (cut_floor v.clock wanted))
      ∙ sym (later_floor v.cut (cut_at v.clock wanted))

  shows_kept : (cut : Option ℕ) → cut ≡ later_cut v.cut (cut_at v.clock wanted)
      → Shows (record v { hours = wanted; cut = cut; clock_before = v.clock; cut_before = cut })
      (kept_line v actor wanted ∷ log)
  shows_kept cut is =
      let higher : floor_of v.cut ≤ floor_of cut =
      omega (arith, ap floor_of is, later_floor v.cut (cut_at v.clock wanted)) in
      record {
        stored = record {
          live = shown.stored.live;
          was = shown.stored.was;
          named = shown.stored.named;
          made_is = shown.stored.made_is;
          hours_are = lasts;
          shards_are = shown.stored.shards_are;
          next_is = omega (arith, shown.stored.next_is);
          floor_is = floor_kept ∙ ap floor_of (sym is);
          kept =
              kept_along (floor_of cut) log (kept_line v actor wanted ∷ log) v.no 0 v.logs (λ sh. refl)
              (kept_higher (floor_of v.cut) (floor_of cut) log v.no 0 v.logs higher shown.stored.kept);
          none_beyond = shown.stored.none_beyond;
        };
        rates = record {
          enforced_is = shown.rates.enforced_is;
          stand = shown.rates.stand;
          none_beyond = shown.rates.none_beyond;
        };
      }

  -- A change of the retention answers `Done`, and with the later cut the stream shows its line.
  pub keep_done : (cut : Option ℕ) → cut ≡ later_cut v.cut (cut_at v.clock wanted)
      → false ≡ (if raise then nat_lt wanted v.hours else nat_lt v.hours wanted)
      → (Ok reply.Done ≡ answer_of (keep log v.clock actor v.no wanted raise))
      × Shows (record v { hours = wanted; cut = cut; clock_before = v.clock; cut_before = cut })
      (with_lines (lines_of (keep log v.clock actor v.no wanted raise)) log)
  keep_done cut later is =
      after_accepted _ (kept_line v actor wanted ∷ []) reply.Done log
      (λ l. Shows (record v { hours = wanted; cut = cut; clock_before = v.clock; cut_before = cut }) l)
      (passed_if _ _ _ (tested false is)) (shows_kept cut later)

pub stream_kept : (v : StreamValue) (wanted : ℕ) (cut : Option ℕ) → cut ≡ later_cut v.cut (cut_at v.clock wanted)
    → IsRetention wanted → IsStream v
    → IsStream (record v { hours = wanted; cut = cut; clock_before = v.clock; cut_before = cut })
stream_kept v wanted cut later lasting is =
    let trims : floor_of cut ≤ v.clock =
    omega (arith, ap floor_of later, trims_later v.clock v.clock wanted v.cut lasting (omega arith) is.trims) in
    record {
      as_many = is.as_many;
      few = is.few;
      lasting = lasting;
      numbers = is.numbers;
      endings = is.endings;
      arrivals = arrived_later v.clock_before v.clock v.logs is.order is.arrivals;
      order = omega arith;
      trims = trims;
      trims_before = trims;
      rated = rated_later v.clock_before v.clock (length v.tree) v.windows is.order is.rated;
      drawn = is.drawn;
      fits = is.fits;
    }
