use Rattle.std.proofs.Common.{◌≡◌, ◌≢◌, ℕ, take, sym, ◌∙◌, subst, arith, rules}
use Rattle.ae_text.proofs.SpellingLemmas.{NoneIs, none_of, none_more, keywords}
use Rattle.ae_text.proofs.words.keyword.Goals as goal

pub loop-keyword-preserved : goal.loop-keyword-preserved
loop-keyword-preserved c =
    let differ : c.args.s.now ≢ c.as_bytes.result.now = search rules in
    let e = c.as_bytes.ensures.value ∙ c.text.ensures in
    let h = λ (w : _). differ (w ∙ sym e) in
    none_more _ _ _ _ (omega arith) c.loop-keyword.invariant h

pub returns : goal.returns
returns c = λ k.
    let i : ℕ = c.loop-keyword.keyword-index in
    let P : ℕ → Type 0 = λ n. NoneIs c.args.s.now (take n keywords) in
    let all : i ≡ 35 = omega arith in
    none_of c.args.s.now k (subst P all c.loop-keyword.invariant)
