-- Facts on items of arrays: where they stand, and that a write to an item is one of the array that stands there.
use Rattle.std.proofs.Common.{◌≡◌, refl, sym, ap, ◌∙◌, ℕ, ℤ, List, Option, None, Some, slice_set}
use Rattle.std.specs.Prelude.{is_some, true}
use Rattle.ae_rules.specs.Verdict.{given}
use Rattle.ae_tree.specs.declared.tree.Path.{Path}
use Rattle.ae_tree.specs.Plain.{Code, Expression}
use Rattle.ae_semantics.specs.Values.{Val, Owned, Tree, Object, Array}
use Rattle.ae_semantics.specs.Places.{Outcome, Fine, Traps, Lacks, ◌>>=◌, there, State, OpenedObject, reach, write_tree}
use Rattle.ae_semantics.specs.Places.{write_in}
use Rattle.ae_semantics.specs.Expressions.{numbers, index, number_of}
use Rattle.ae_semantics.specs.Meaning.{stored_at}
use Rattle.ae_values.specs.Inside.{array_inside, items_of, tree_items}
use Rattle.ae_stores.specs.Stand.{array_at, item_written}
use Rattle.ae_stores.specs.Targets.{ItemAt, item_aimed}
use Rattle.ae_stores.proofs.OutcomeLemmas.{fine_first}
use Rattle.ae_stores.proofs.StandLemmas.{reach_stands}

-- the integers of a tree are the items of the array that it is
pub numbers_are_items : (t : Tree) → numbers t ≡ there (tree_items t)
numbers_are_items (Array ns) = refl
numbers_are_items (Object c xs) = refl

-- what has integers is an array of them
array_is : (t : Tree) (ns : List ℤ) → numbers t ≡ Fine ns → t ≡ Array ns
array_is (Array ms) ns e = ap Array (same_numbers ms ns e)
  where
    same_numbers : (ms ns : List ℤ) → Fine ms ≡ Fine ns → ms ≡ ns
    same_numbers ms ns e = cc e
array_is (Object c xs) ns e = absurd (cc e)

-- an array that is reached stands where it was found
array_stands : (p : Code) (s : State) (path : Path) (o : OpenedObject) (ns : List ℤ) → reach p s path ≡ Fine o
    → numbers o.tree ≡ Fine ns → array_at s o.at.base o.at.fields ≡ Some ns
array_stands p s path o ns e is =
    let h = reach_stands p s path o e in
    ap (λ (w : Option Val). given w none (array_inside o.at.fields)) h.1
    ∙ ap (λ (v : Option Val). given v none items_of) h.2
    ∙ ap (λ t. items_of (Owned t)) (array_is o.tree ns is)
  where
    none : Option (List ℤ)
    none = None

-- an array whose item a write is aimed at is there
pub array_is_there : (p : Code) (s : State) (path : Path) (n : ℤ) (x : ItemAt) → item_aimed p s path n ≡ Fine x
    → is_some (array_at s x.at.base x.at.fields) ≡ true
array_is_there p s path n x e =
    let a = fine_first (reach p s path)
    (λ o. numbers o.tree >>= λ ns. index ns n >>= λ k. Fine (record { at = o.at; number = k })) x e in
    let b = fine_first (numbers a.0.tree) (λ ns. index ns n >>= λ k. Fine (record { at = a.0.at; number = k })) x a.2 in
    let c = fine_first (index b.0 n) (λ k. Fine (record { at = a.0.at; number = k })) x b.2 in
    let same : record { at = a.0.at; number = c.0 } ≡ x = cc (c.2) in
    ap (λ (y : ItemAt). is_some (array_at s y.at.base y.at.fields)) (sym same)
    ∙ ap is_some (array_stands p s path a.0 b.0 a.1 b.1)

-- once its index and its value are known, a write is one of the item at which it is aimed
aimed_and_written : (p : Code) (s : State) (path : Path) (n v : ℤ)
    → (reach p s path >>= λ o. numbers o.tree >>= λ ns. index ns n >>= λ k. write_tree s o (Array (slice_set ns k v)))
    ≡ (item_aimed p s path n >>= λ x. item_written s x.at.base x.at.fields x.number v)
aimed_and_written p s path n v = by_object (reach p s path) refl
  where
    by_index : (o : OpenedObject) (ns : List ℤ) → array_at s o.at.base o.at.fields ≡ Some ns → (i : Outcome ℕ)
        → (i >>= λ k. write_tree s o (Array (slice_set ns k v)))
        ≡ ((i >>= λ k. Fine (record { at = o.at; number = k }))
        >>= λ (x : ItemAt). item_written s x.at.base x.at.fields x.number v)
    by_index o ns h (Fine k) = sym (ap (λ (m : Option (List ℤ)). there m
        >>= λ ms. write_in s o.at.base o.at.fields (Owned (Array (slice_set ms k v)))) h)
    by_index o ns h (Traps code) = refl
    by_index o ns h Lacks = refl

    by_items : (o : OpenedObject) → reach p s path ≡ Fine o → (m : Outcome (List ℤ)) → numbers o.tree ≡ m
        → (m >>= λ ns. index ns n >>= λ k. write_tree s o (Array (slice_set ns k v)))
        ≡ ((m >>= λ ns. index ns n >>= λ k. Fine (record { at = o.at; number = k }))
        >>= λ (x : ItemAt). item_written s x.at.base x.at.fields x.number v)
    by_items o e (Fine ns) is = by_index o ns (array_stands p s path o ns e is) (index ns n)
    by_items o e (Traps code) is = refl
    by_items o e Lacks is = refl

    by_object : (r : Outcome OpenedObject) → reach p s path ≡ r
        → (r >>= λ o. numbers o.tree >>= λ ns. index ns n >>= λ k. write_tree s o (Array (slice_set ns k v)))
        ≡ ((r >>= λ o. numbers o.tree >>= λ ns. index ns n >>= λ k. Fine (record { at = o.at; number = k }))
        >>= λ (x : ItemAt). item_written s x.at.base x.at.fields x.number v)
    by_object (Fine o) e = by_items o e (numbers o.tree) refl
    by_object (Traps code) e = refl
    by_object Lacks e = refl

-- the same of the whole statement
pub stored_at_item : (p : Code) (s : State) (path : Path) (i e : Expression) (n v : ℤ) → number_of p s i ≡ Fine n
    → number_of p s e ≡ Fine v → stored_at p path i e s
    ≡ (item_aimed p s path n >>= λ x. item_written s x.at.base x.at.fields x.number v)
stored_at_item p s path i e n v is value =
    ap (λ o. o >>= λ m. number_of p s e >>= λ w. reach p s path >>= λ o. numbers o.tree >>= λ ns. index ns m
    >>= λ k. write_tree s o (Array (slice_set ns k w))) is
    ∙ ap (λ o. o >>= λ w. reach p s path >>= λ o. numbers o.tree >>= λ ns. index ns n
    >>= λ k. write_tree s o (Array (slice_set ns k w))) value
    ∙ aimed_and_written p s path n v
