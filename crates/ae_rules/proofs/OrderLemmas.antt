-- The order of instances goes with the source, and is transitive.
use Rattle.std.proofs.Common.{arith, ◌≡◌, ◌<◌, ◌⊎◌, inl, inr, refl, sym, ap, ◌∙◌, subst, ℕ, zero, suc, nat_eq}
use Rattle.std.proofs.Common.{nat_lt, Bool, true, false, ◌&&◌, ◌||◌, if◌then◌else◌, List, [], ◌∷◌, Option, None}
use Rattle.std.proofs.Common.{Some}
use Rattle.std.proofs.lemmas.Bool.{eqb-true, lt-ltb, and_from, or_left, or_right}
use Rattle.ae_rules.specs.declared.uses.Mode.{Mode}
use Rattle.ae_tree.specs.Limits.{statement_count}
use Rattle.ae_rules.specs.Edges.{IsConflict, BlockUses, Before, Direct, Through}
use Rattle.ae_tree.specs.Plain.{Action, Lines, End, Next, Code}
use Rattle.ae_rules.specs.Uses.{statement_at, of_found, statement_uses, context_at}
use Rattle.ae_rules.specs.Blocks.{Scene, scene_uses}
use Rattle.ae_rules.specs.Instances.{Point, InBlock, AtChoice, AtLoop, Nowhere, inside, first_point, Parting}
use Rattle.ae_rules.specs.Instances.{parting_from, IsFirstAt}
use Rattle.ae_rules.specs.Paths.{comes_before}
use Rattle.ae_rules.specs.EdgeLaws.{OrderIsOfTheSource, OrderIsTransitive}
use Rattle.ae_rules.proofs.EdgeLemmas.{chains_go_forward}

-- ---- at one point

-- a statement that is used is there
there_below : (b : Lines) (k : ℕ) (a : Action) → statement_at b k ≡ Some a → k < statement_count b
there_below End k a e = absurd (cc)
there_below (Next at s rest) zero a e = omega arith
there_below (Next at s rest) (suc k) a e = let l : k < statement_count rest = there_below rest k a e in omega (arith, l)

conflict_below : (p : Code) (s : Scene) (k : ℕ) (o : Option Mode) (r : _) → IsConflict o (scene_uses p s k r)
    → k < statement_count s.lines
conflict_below p s k o r h = by_action (statement_at s.lines k) refl h
  where
    no_use : (o : Option Mode) → IsConflict o None → ⊥
    no_use None x = x
    no_use (Some m) x = x

    by_action : (q : Option Action) → statement_at s.lines k ≡ q
        → IsConflict o (of_found q (λ a. of_found (context_at p s.method s.lines s.start k)
        (statement_uses p s.method a)) r) → k < statement_count s.lines
    by_action None e x = absurd (no_use o x)
    by_action (Some a) e x = there_below s.lines k a e

-- a chain ends at a statement that is there
chain_below : (p : Code) (s : Scene) (i k : ℕ) → Before (scene_uses p s) i k → k < statement_count s.lines
chain_below p s _ _ (Direct i k e) = conflict_below p s k (scene_uses p s i e.on) e.on e.conflict
chain_below p s _ _ (Through i j k e c) = chain_below p s j k c

chain_then : (uses : BlockUses) (i j k : ℕ) → Before uses i j → Before uses j k → Before uses i k
chain_then uses _ _ k (Direct i j e) d = Through i j k e d
chain_then uses _ _ k (Through i h j e c) d = Through i h k e (chain_then uses h j k c d)

first_less : (p : Code) (at : Point) (i j : ℕ) → IsFirstAt p at i j → i < j
first_less p (InBlock locked s) i j h = elim h [ inl x ↦ x.1 | inr c ↦ chains_go_forward (scene_uses p s) i j c ]
first_less p (AtChoice locked s other) i j h = h.1
first_less p (AtLoop locked uses s) i j h = h
first_less p Nowhere i j h = absurd h

locked_then : (p : Code) (s : Scene) (locked : Bool) (i j k : ℕ) → locked ≡ true → i < j
    → IsFirstAt p (InBlock locked s) j k → IsFirstAt p (InBlock locked s) i k
locked_then p s locked i j k e l h = elim h [
  | inl x ↦ let m : j < k = x.1 in inl (e, omega (arith, l, m), x.2)
  | inr c ↦ let m : j < k = chains_go_forward (scene_uses p s) j k c in inl
      (e, omega (arith, l, m), chain_below p s j k c)
]

chain_and : (p : Code) (s : Scene) (locked : Bool) (i j k : ℕ) → Before (scene_uses p s) i j
    → IsFirstAt p (InBlock locked s) j k → IsFirstAt p (InBlock locked s) i k
chain_and p s locked i j k c h = elim h [
  | inl x ↦ let l : i < j = chains_go_forward (scene_uses p s) i j c in let m : j < k = x.1 in inl
      (x.0, omega (arith, l, m), x.2)
  | inr d ↦ inr (chain_then (scene_uses p s) i j k c d)
]

first_then : (p : Code) (at : Point) (i j k : ℕ) → IsFirstAt p at i j → IsFirstAt p at j k → IsFirstAt p at i k
first_then p (InBlock locked s) i j k h g =
    elim h [ inl x ↦ locked_then p s locked i j k x.0 x.1 g | inr c ↦ chain_and p s locked i j k c g ]
first_then p (AtChoice locked s other) i j k h g = let l : i < j = h.1 in let m : j < k =
    g.1 in (h.0, omega (arith, l, m), g.2)
first_then p (AtLoop locked uses s) i j k h g = omega (arith, h, g)
first_then p Nowhere i j k h g = h

-- ---- along paths

-- the two part, seen from a point, and the first ends before the second begins
record OrderedFrom (p : Code) (at : Point) (q r : List ℕ) : Type 0 where
  fork : Parting
  parts : parting_from p at q r ≡ Some fork
  order : IsFirstAt p fork.at fork.left fork.right

abbrev Part : Point → ℕ → ℕ → List ℕ → List ℕ → Parting
Part at i j q r = record { at = at; left = i; left_rest = q; right = j; right_rest = r }

later : (p : Code) (at : Point) (i j : ℕ) (q r : List ℕ) → nat_eq i j ≡ true → OrderedFrom p (inside p at i) q r
    → OrderedFrom p at (i ∷ q) (j ∷ r)
later p at i j q r e o = record {
  fork = o.fork;
  parts = ap (λ (b : Bool). if b then parting_from p (inside p at i) q r else Some (Part at i j q r)) e ∙ o.parts;
  order = o.order;
}

here : (p : Code) (at : Point) (i j : ℕ) (q r : List ℕ) → nat_eq i j ≡ false → IsFirstAt p at i j
    → OrderedFrom p at (i ∷ q) (j ∷ r)
here p at i j q r e h = record {
  fork = Part at i j q r;
  parts = ap (λ (b : Bool). if b then parting_from p (inside p at i) q r else Some (Part at i j q r)) e;
  order = h;
}

-- the two part here, or later
abbrev HereOrLater : Code → Point → ℕ → ℕ → List ℕ → List ℕ → Type 0
HereOrLater p at i j q r = ((nat_eq i j ≡ true) × OrderedFrom p (inside p at i) q r)
    ⊎ ((nat_eq i j ≡ false) × IsFirstAt p at i j)

apart : (p : Code) (at : Point) (i j : ℕ) (q r : List ℕ) → OrderedFrom p at (i ∷ q) (j ∷ r) → HereOrLater p at i j q r
apart p at i j q r o = by_test (nat_eq i j) refl o.parts
  where
    same_fork : (x y : Parting) → Some x ≡ Some y → x ≡ y
    same_fork x y h = cc

    by_test : (b : Bool) → nat_eq i j ≡ b → (if b then parting_from p (inside p at i) q r else Some (Part at i j q r))
        ≡ Some o.fork → HereOrLater p at i j q r
    by_test true e h = inl (e, record { fork = o.fork; parts = h; order = o.order })
    by_test false e h = inr (
      e,
      subst (λ (x : Parting). IsFirstAt p x.at x.left x.right)
          (sym (same_fork (Part at i j q r) o.fork h)) o.order,
    )

in_source : (p : Code) (at : Point) (q r : List ℕ) → OrderedFrom p at q r → comes_before q r ≡ true
in_source p at [] r o = absurd (no_fork o.fork o.parts)
  where
    no_fork : (x : Parting) → None ≡ Some x → ⊥
    no_fork x e = cc
in_source p at (i ∷ q) [] o = absurd (no_fork o.fork o.parts)
  where
    no_fork : (x : Parting) → None ≡ Some x → ⊥
    no_fork x e = cc
in_source p at (i ∷ q) (j ∷ r) o = by_place (λ x. in_source p (inside p at i) q r x) (apart p at i j q r o)
  where
    by_place : (OrderedFrom p (inside p at i) q r → comes_before q r ≡ true) → HereOrLater p at i j q r
        → (nat_lt i j || (nat_eq i j && comes_before q r)) ≡ true
    by_place ih h = elim h [
      | inl x ↦ or_right (nat_lt i j) (nat_eq i j && comes_before q r)
          (and_from (nat_eq i j) (comes_before q r) x.0 (ih x.1))
      | inr x ↦ or_left (nat_lt i j) (nat_eq i j && comes_before q r) (lt-ltb i j (first_less p at i j x.1))
    ]

pub order_is_of_the_source : OrderIsOfTheSource
order_is_of_the_source p q r o = in_source p (first_point p) q r
    (record { fork = o.fork; parts = o.parts; order = o.order })

less_differs : (i j : ℕ) → i < j → nat_eq i j ≡ false
less_differs i j l = by_test (nat_eq i j) refl
  where
    by_test : (b : Bool) → nat_eq i j ≡ b → b ≡ false
    by_test true e = absurd (let q : i ≡ j = eqb-true i j e in omega (arith, l, q))
    by_test false e = refl

ordered_then : (p : Code) (at : Point) (q r s : List ℕ) → OrderedFrom p at q r → OrderedFrom p at r s
    → OrderedFrom p at q s
ordered_then p at [] r s o k = absurd (no_fork o.fork o.parts)
  where
    no_fork : (x : Parting) → None ≡ Some x → ⊥
    no_fork x e = cc
ordered_then p at (i ∷ q) [] s o k = absurd (no_fork o.fork o.parts)
  where
    no_fork : (x : Parting) → None ≡ Some x → ⊥
    no_fork x e = cc
ordered_then p at (i ∷ q) (j ∷ r) [] o k = absurd (no_fork k.fork k.parts)
  where
    no_fork : (x : Parting) → None ≡ Some x → ⊥
    no_fork x e = cc
ordered_then p at (i ∷ q) (j ∷ r) (l ∷ s) o k = by_place (λ x y. ordered_then p (inside p at i) q r s x y)
    (apart p at i j q r o) (apart p at j l r s k)
  where
    by_place : (OrderedFrom p (inside p at i) q r → OrderedFrom p (inside p at i) r s
        → OrderedFrom p (inside p at i) q s) → HereOrLater p at i j q r → HereOrLater p at j l r s
        → OrderedFrom p at (i ∷ q) (l ∷ s)
    by_place ih h g = elim h [
      | inl x ↦ elim g [
        | inl y ↦ later p at i l q s (subst (λ (z : ℕ). nat_eq z l ≡ true) (sym (eqb-true i j x.0)) y.0)
            (ih x.1 (subst (λ (z : ℕ). OrderedFrom p (inside p at z) r s) (sym (eqb-true i j x.0)) y.1))
        | inr y ↦ here p at i l q s (subst (λ (z : ℕ). nat_eq z l ≡ false) (sym (eqb-true i j x.0)) y.0)
            (subst (λ (z : ℕ). IsFirstAt p at z l) (sym (eqb-true i j x.0)) y.1)
      ]
      | inr x ↦ elim g [
        | inl y ↦ here p at i l q s (subst (λ (z : ℕ). nat_eq i z ≡ false) (eqb-true j l y.0) x.0)
            (subst (λ (z : ℕ). IsFirstAt p at i z) (eqb-true j l y.0) x.1)
        | inr y ↦ let f : IsFirstAt p at i l = first_then p at i j l x.1 y.1 in here p at i l q s
            (less_differs i l (first_less p at i l f)) f
      ]
    ]

pub order_is_transitive : OrderIsTransitive
order_is_transitive p q r s o k =
    let h = ordered_then p (first_point p) q r s (record { fork = o.fork; parts = o.parts; order = o.order })
    (record { fork = k.fork; parts = k.parts; order = k.order }) in
    record { fork = h.fork; parts = h.parts; order = h.order }
