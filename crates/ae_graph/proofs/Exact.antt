-- The graph of a block is one list of lists.
use Rattle.std.proofs.Common.{arith, ◌≡◌, ◌<◌, ◌⊎◌, inl, inr, refl, sym, ap, ap₂, ◌∙◌, subst, ℕ, zero, suc}
use Rattle.std.proofs.Common.{true, List, [], ◌∷◌, length, slice_index_or}
use Rattle.std.specs.List.{Contains}
use Rattle.std.proofs.lemmas.List.{ext_get_or, get_or_append_left, get_or_push, length-append, length-map, get_or-map}
use Rattle.std.proofs.lemmas.Bool.{cases_order}
use Rattle.ae_rules.specs.Edges.{BlockUses, IsRising, Preds}
use Rattle.ae_rules.specs.EdgeLists.{preds, graph, those_below}
use Rattle.ae_graph.specs.Graph.{Graph, preds_in, IsGraphOf}
use Rattle.ae_graph.proofs.from_uses.Elements.{here, there, uncons}
use Rattle.ae_graph.proofs.from_text.Basics.{empty_has_nothing}
use Rattle.ae_graph.proofs.Rows.{rising_tail}

-- ---- rising lists

above_first : (x : ℕ) (xs : List ℕ) → IsRising (x ∷ xs) → (z : ℕ) → Contains xs z → x < z
above_first x [] r z h = absurd (empty_has_nothing z h)
above_first x (y ∷ xs) r z h = elim (uncons y xs z h) [
  | inl e ↦ subst (λ w. x < w) e r.0
  | inr k ↦ let l : y < z = above_first y xs r.1 z k in let m : x < y = r.0 in omega (arith, l, m)
]

-- each element of the one is in the other
abbrev Within : List ℕ → List ℕ → Type 0
Within xs ys = (z : ℕ) → Contains xs z → Contains ys z

first_same : (x y : ℕ) (xs ys : List ℕ) → IsRising (x ∷ xs) → IsRising (y ∷ ys) → Within (x ∷ xs) (y ∷ ys)
    → Within (y ∷ ys) (x ∷ xs) → x ≡ y
first_same x y xs ys r s f g = elim (uncons y ys x (f x (here x xs))) [
  | inl e ↦ sym e
  | inr k ↦ elim (uncons x xs y (g y (here y ys))) [
    | inl e ↦ e
    | inr l ↦ let a : y < x = above_first y ys s x k in let b : x < y = above_first x xs r y l in absurd
        (omega (arith, a, b))
  ]
]

tail_within : (x y : ℕ) (xs ys : List ℕ) → x ≡ y → IsRising (x ∷ xs) → Within (x ∷ xs) (y ∷ ys) → Within xs ys
tail_within x y xs ys e r f z h = elim (uncons y ys z (f z (there x xs z h))) [
  | inl q ↦ let l : x < z = above_first x xs r z h in absurd (omega (arith, l, e, q))
  | inr k ↦ k
]

-- two rising lists of the same numbers are one list
same_rising : (xs ys : List ℕ) → IsRising xs → IsRising ys → Within xs ys → Within ys xs → xs ≡ ys
same_rising [] [] r s f g = refl
same_rising [] (y ∷ ys) r s f g = absurd (empty_has_nothing y (g y (here y ys)))
same_rising (x ∷ xs) [] r s f g = absurd (empty_has_nothing x (f x (here x xs)))
same_rising (x ∷ xs) (y ∷ ys) r s f g =
    let e : x ≡ y = first_same x y xs ys r s f g in
    ap₂ (λ (a : ℕ) (b : List ℕ). a ∷ b) e
    (same_rising xs ys (rising_tail x xs r) (rising_tail y ys s) (tail_within x y xs ys e r f)
    (tail_within y x ys xs (sym e) s g))

same_preds : (uses : BlockUses) (j : ℕ) (xs ys : List ℕ) → Preds uses j xs → Preds uses j ys → xs ≡ ys
same_preds uses j xs ys p q = same_rising xs ys p.rising q.rising (λ z h. (q.exact z).1 ((p.exact z).0 h))
    (λ z h. (p.exact z).1 ((q.exact z).0 h))

-- ---- graphs as lists

abbrev pub all_below : ℕ → List ℕ
all_below n = those_below n (λ j. true)

pub length_below : (n : ℕ) → length (all_below n) ≡ n
length_below zero = refl
length_below (suc n) = omega (arith, length-append (all_below n) (n ∷ []), length_below n)

pub number_below : (n j : ℕ) → j < n → slice_index_or (all_below n) j 0 ≡ j
number_below zero j l = absurd (omega (arith, l))
number_below (suc n) j l = elim (last_or_below j n l) [
  | inl m ↦ get_or_append_left (all_below n) (n ∷ []) 0 j (omega (arith, m, length_below n)) ∙ number_below n j m
  | inr e ↦ get_or_push (all_below n) n 0 j (omega (arith, e, length_below n)) ∙ sym e
]
  where
    last_or_below : (i n : ℕ) → i < suc n → (i < n) ⊎ (i ≡ n)
    last_or_below i n l = elim (cases_order i n) [
      | inl e ↦ inr (omega (arith, e))
      | inr o ↦ elim o [ inl m ↦ inl (omega (arith, m)) | inr m ↦ absurd (omega (arith, l, m)) ]
    ]

-- a list with exactly the rows that the rules give is their graph
pub graph_is_one : (n : ℕ) (uses : BlockUses) → ((j : ℕ) → Preds uses j (preds n uses j)) → (g : Graph) (k : ℕ)
    → IsGraphOf uses k g → g ≡ graph n uses k
graph_is_one n uses exact g k (e, rows) = ext_get_or [] g (graph n uses k)
    (omega (arith, e, length-map (all_below k) (preds n uses), length_below k))
    (λ j l. same_preds uses j (preds_in g j) (preds n uses j) (rows j l) (exact j)
    ∙ sym (get_or-map (preds n uses) (all_below k) j 0 [] (omega (arith, e, l, length_below k))
    ∙ ap (preds n uses) (number_below k j (omega (arith, e, l)))))
