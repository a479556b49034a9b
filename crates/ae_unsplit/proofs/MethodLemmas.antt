-- Methods that split nothing, one after the other.
use Rattle.std.proofs.Common.{◌≡◌, ◌↔◌, ◌<◌, ◌+◌, ℕ, List, ◌∷◌, length, get_or, drop, map, sym, ap, ◌∙◌, subst}
use Rattle.std.specs.Prelude.{All}
use Rattle.std.proofs.lemmas.List.{drop_more}
use Rattle.std.proofs.lemmas.List.Elements.{All-cons, All-head, All-tail}
use Rattle.ae_tree.specs.declared.tree.Method.{Method}
use Rattle.ae_tree.specs.Plain.{Definition}
use Rattle.ae_tree.specs.Shown.{definition}
use Rattle.ae_unsplit.specs.Unsplit.{AreUnsplit}

-- no method of these splits anything
abbrev EachUnsplit : List Method → Type 0
EachUnsplit ms = All (λ (m : Definition). AreUnsplit m.body) (map definition ms)

-- these methods from one on split nothing exactly where that one does not and those behind it do not
pub one_and_rest : (ms : List Method) (i : ℕ) (m : Method) → i < length ms → m ≡ get_or ms i m
    → EachUnsplit (drop i ms) ↔ (AreUnsplit (definition m).body × EachUnsplit (drop (i + 1) ms))
one_and_rest ms i m lt is =
    let here : drop i ms ≡ m ∷ drop (i + 1) ms = drop_more ms i m lt
    ∙ ap (λ (y : Method). y ∷ drop (i + 1) ms) (sym is) in
    let P : Definition → Type 0 = λ (d : Definition). AreUnsplit d.body in
    let rest : List Definition = map definition (drop (i + 1) ms) in (
      λ all. let split : EachUnsplit (m ∷ drop (i + 1) ms) = subst EachUnsplit here all in
          (All-head P (definition m) rest split, All-tail P (definition m) rest split),
      λ both. subst EachUnsplit (sym here) (All-cons P (definition m) rest both.0 both.1),
    )
