use Rattle.kcl_audit_sound.proofs.Decided.{told_lines}
use Rattle.kcl_audit_sound.proofs.Texts.{all_lines, is_journal, is_sound}
use Rattle.kcl_audit_sound.proofs.laws.sound_histories.Goals as goal

pub returns : goal.returns
returns c =
    let tells = told_lines c.shard_records.ensures.shards c.shard_records.ensures.numbers
    c.shard_records.ensures.next in
    let reached = c.step.ensures.history in
    record {
      lines = all_lines tells reached c.shown.ensures c.complete.ensures.sounds;
      legal = is_journal tells reached c.shown.ensures c.complete.ensures.sounds;
      sound = is_sound tells reached c.shown.ensures c.complete.ensures.sounds;
    }
