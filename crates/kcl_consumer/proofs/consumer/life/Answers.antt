use Rattle.kcl_defs.proofs.LifeLemmas.{life}
use Rattle.kcl_defs.proofs.StepLemmas.{life_among, own_keeps}
use Rattle.kcl_consumer.proofs.consumer.life.Goals as goal

pub returns : goal.returns
returns c = record {
  own = λ made past. life made past;
  among = λ deals made past step. life_among deals made past step;
  step = λ deal deals counter made past next step. own_keeps deal deals counter made past next step;
}
