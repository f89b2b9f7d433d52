use Rattle.kds_token.proofs.TokenLemmas.{iter_exact, page_exact, one_iter, one_page, tokens_apart}
use Rattle.kds_token.proofs.laws.one_token.Goals as goal

pub returns : goal.returns
returns c = record {
  iterators = one_iter;
  pages = one_page;
  apart = tokens_apart;
  iterator_texts = iter_exact;
  page_texts = page_exact;
}
