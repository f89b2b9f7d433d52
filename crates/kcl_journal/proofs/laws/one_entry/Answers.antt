use Rattle.kcl_journal.proofs.EntryLemmas.{entry_spells, entry_again, end_spells, end_again, end_apart, heading_apart}
use Rattle.kcl_journal.proofs.FeedLemmas.{entry_lacks, end_lacks}
use Rattle.kcl_journal.proofs.laws.one_entry.Goals as goal

pub returns : goal.returns
returns c = record {
  reads = entry_spells;
  again = entry_again;
  end_reads = end_spells;
  end_again = end_again;
  apart = end_apart;
  heading = heading_apart;
  one_line = entry_lacks;
  end_line = end_lacks;
}
