-- From what a run answers to what is told of it.
use Rattle.std.proofs.Common.{◌≡◌, ℕ, List, [], Some, sym, subst}
use Rattle.ae_tree.specs.Plain.{Code}
use Rattle.ae_meaning.specs.declared.report.Ending as today_ending
use Rattle.ae_semantics.specs.declared.report.Ending.{Ending}
use Rattle.ae_semantics.specs.Means.{seq, bytes}
use Rattle.ae_cases.specs.Laws.{as_whole}
use Rattle.ae_levels.specs.Meanings.{MeansSo}

-- what a run by the graph answers, by the meaning without observations, is so by the meaning
pub graph_run_means : (p : Code) (ending : today_ending.Ending) (out : List ℕ)
    → Some (as_whole ending) ≡ (seq p [] 100000).ending → out ≡ bytes (seq p [] 100000) []
    → MeansSo p [] 100000 (as_whole ending) out
unfolding seq
graph_run_means p ending out ends prints = (sym ends, sym prints)

-- what a program means is so of the same program and the same bytes
pub same_means : (p q : Code) (ending : Ending) (out told : List ℕ) → p ≡ q → told ≡ out
    → MeansSo p [] 100000 ending out → MeansSo q [] 100000 ending told
same_means p q ending out told same is means =
    subst (λ (k : Code). MeansSo k [] 100000 ending told) same
    (subst (λ (bs : List ℕ). MeansSo p [] 100000 ending bs) (sym is) means)
