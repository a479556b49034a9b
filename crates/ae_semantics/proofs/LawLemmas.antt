-- The laws of the meaning.
use Rattle.std.proofs.Common.{◌≡◌, refl, List, [], ◌∷◌, ◌++◌, Option, Some, ap, sym, ◌∙◌, None}
use Rattle.std.proofs.lemmas.List.{append-nil}
use Rattle.std.specs.Prelude.{⊤}
use Rattle.std.specs.Prelude.{option_map}
use Rattle.ae_rules.specs.Verdict.{Verdict}
use Rattle.ae_rules.specs.Context.{Context}
use Rattle.ae_semantics.specs.Contexts.{or_before}
use Rattle.ae_semantics.specs.declared.report.Ending.{Ending}
use Rattle.ae_semantics.specs.Observations.{Seen, Observer}
use Rattle.ae_semantics.specs.Runs.{Run, Went, Ends, Stops}
use Rattle.ae_semantics.specs.Means.{notes_of, run, ending_of, meant, in_order, source_machine, mean, stops_at}
use Rattle.ae_semantics.specs.Laws.{ContextsAreJudged, MoreChangesNothing}
use Rattle.ae_semantics.proofs.Follow.{Same, Answers, same_run, same_doing}
use Rattle.ae_semantics.proofs.Exactly.{AnswersExactly, with_watch, exact_run, exact_doing}
use Rattle.ae_semantics.specs.Gathering.{gathering, gathered, answers, doing, carry, carried, GoesByItsAnswers}
use Rattle.ae_semantics.specs.Gathering.{StatementGoesByItsAnswers, GoesFurther, MoreGoesFurther}
use Rattle.ae_semantics.specs.Gathering.{StatementGoesFurther}
use Rattle.ae_semantics.specs.Atom.{by_query}
use Rattle.ae_semantics.proofs.Gathered.{Sim, sim_run, sim_doing}

pub contexts_are_judged : ContextsAreJudged
contexts_are_judged p m at a c d j = ap (λ (v : Verdict Context). or_before v c) j

-- a longer list answers alike
longer : (more : List Seen) → Answers (λ (w : List Seen). w ++ more) in_order in_order
longer more [] q x v e = absurd (cc e)
longer more (y ∷ ys) q x v e = ap (option_map (λ (z : Seen × List Seen). (z.0, z.1 ++ more))) e

same_meant : {V W : Type 0} (h : V → W) (r : Run V) (q : Run W) → Same h r q → (e : Ending) → ending_of r ≡ Some e
    → meant q ≡ meant r
same_meant h (Went s n) q d e c = ap meant d
same_meant h (Ends ending n) q d e c = ap meant d
same_meant h (Stops n) q d e c = absurd (cc c)

pub more_changes_nothing : MoreChangesNothing
unfolding mean
more_changes_nothing p ints fuel seen more e d = same_meant (λ (w : List Seen). w ++ more)
    (run (source_machine p) ints fuel seen) (run (source_machine p) ints fuel (seen ++ more))
    (same_run (λ (w : List Seen). w ++ more) p in_order in_order (longer more) ints fuel seen) e d

further : (more : List Seen) (r q : Run (List Seen)) → Same (λ (w : List Seen). w ++ more) r q → GoesFurther more r q
further more (Went s n) q e = e
further more (Ends ending n) q e = e
further more (Stops n) q e = e

pub more_goes_further : MoreGoesFurther
more_goes_further p ints fuel seen more = further more (run (source_machine p) ints fuel seen)
    (run (source_machine p) ints fuel (seen ++ more))
    (same_run (λ (w : List Seen). w ++ more) p in_order in_order (longer more) ints fuel seen)

pub statement_goes_further : StatementGoesFurther
statement_goes_further p fuel more here at a s n = further more (doing (source_machine p) fuel here at a s n)
    (doing (source_machine p) fuel here at a s (carry (λ w. w ++ more) n))
    (same_doing (λ (w : List Seen). w ++ more) p in_order in_order (longer more) fuel here at a s n)

-- ---- the list of answers

plain_of : {V : Type 0} (xs : List Seen) (x : Option (Seen × V))
    → x ≡ option_map (with_watch (λ (w : V × List Seen). w.0))
    (option_map (λ (z : Seen × V). (z.0, (z.1, xs ++ (z.0 ∷ [])))) x)
plain_of xs None = refl
plain_of xs (Some z) = refl

-- an observer that keeps its answers answers as the one that does not
forgets : {V : Type 0} (o : Observer V) → AnswersExactly (λ (w : V × List Seen). w.0) (gathering o) o
forgets o w q = plain_of w.1 (o w.0 q)

-- with exactly the answers that it got, the run by a list is the run that got them
all_used : {V : Type 0} (r : Run (V × List Seen)) (q : Run (List Seen)) → Sim r [] (notes_of r).watch.1 q
    → q ≡ carried (λ w. []) r
all_used (Went s n) q d = d.2 [] (d.1 ∙ sym (append-nil d.0))
all_used (Ends x n) q d = d.2 [] (d.1 ∙ sym (append-nil d.0))
all_used (Stops n) q d = d.2 d.1

pub goes_by_its_answers : GoesByItsAnswers
goes_by_its_answers p ints fuel table = (exact_run (λ (w : ⊤ × List Seen). w.0) p (gathering (by_query table)) (by_query table) (forgets (by_query table)) ints fuel (tt, []), all_used (gathered p ints fuel table) (run (source_machine p) ints fuel (answers (gathered p ints fuel table))) (sim_run p (by_query table) ints fuel tt (answers (gathered p ints fuel table))))

pub statement_goes_by_its_answers : StatementGoesByItsAnswers
statement_goes_by_its_answers p fuel table here at a s n =
    let r : Run (⊤ × List Seen) = doing (stops_at p (gathering (by_query table))) fuel here at a s
    (carry (λ w. (w, [])) n) in (
      exact_doing (λ (w : ⊤ × List Seen). w.0) p (gathering (by_query table)) (by_query table)
          (forgets (by_query table)) fuel here at a s (carry (λ w. (w, [])) n),
      all_used r (doing (source_machine p) fuel here at a s (carry (λ w. answers r) n))
          (sim_doing p (by_query table) fuel here at a s n (answers r)),
    )
