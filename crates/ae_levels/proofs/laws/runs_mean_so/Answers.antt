use Rattle.ae_levels.proofs.MeaningLemmas as lemma_meaning
use Rattle.ae_levels.proofs.StartLemmas as lemma_start
use Rattle.ae_levels.proofs.laws.runs_mean_so.Goals as goal

pub returns : goal.returns
returns c = record {
  run_begins = lemma_start.run_begins;
  all_done = lemma_meaning.all_done;
  means_so = lemma_meaning.means_so;
  has_ending = λ p ints fuel out s r. lemma_meaning.has_ending p ints fuel out c.accepted_meanings_end.ensures s r;
}
