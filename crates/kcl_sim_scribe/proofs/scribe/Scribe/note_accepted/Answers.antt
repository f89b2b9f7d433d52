use Rattle.std.proofs.Common.{◌≡◌, map, rules, ap, ◌∙◌}
use Rattle.kcl_journal.specs.declared.line.EntryLine.{EntryLine}
use Rattle.kcl_sim_scribe.specs.Known.{changed_by}
use Rattle.kcl_sim_scribe.specs.Telling.{entries_of, lines_by}
use Rattle.kcl_sim_scribe.proofs.Noting.{changed_lines, is_other, other_after, other_lines}
use Rattle.kcl_sim_scribe.proofs.scribe.Scribe.note_accepted.Goals as goal

pub returns : goal.returns
returns c =
    let s = c.args.self.now in
    let entry = c.args.what.now in
    let reply = c.args.reply.now in
    let o = is_other entry (λ name count is. c.in_default.not-Create name count is) in
    let old : c.self.inside.streams.items ≡ s.streams = ap (λ z. z.streams) c.self.view_is in
    let es : c.in_ok-entries.entries ≡ entries_of s.streams entry reply = search rules in
    let is_told = c.in_ok-lines.ensures ∙ ap (lines_by c.args.clock c.args.by) es in
    let after = c.change_all.ensures
    ∙ (λ i. changed_by (map (λ (l : EntryLine). l.what) ((c.as_slice.ensures ∙ is_told) i)) (old i))
    ∙ changed_lines c.args.clock c.args.by (entries_of s.streams entry reply) s.streams in
    record {
      lines = is_told ∙ other_lines s c.args.clock c.args.by entry reply o;
      ok = (λ i. record { clock = (c.self.view_is i).clock; made = (c.self.view_is i).made; streams = after i })
          ∙ other_after s entry reply o;
      err = tt;
    }
