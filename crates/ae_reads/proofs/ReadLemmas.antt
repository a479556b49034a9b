-- Facts on reading arrays: their length and their items.
use Rattle.std.proofs.Common.{◌≡◌, ◌∙◌, ℤ, pos, length, refl, ap}
use Rattle.ae_text.specs.declared.refusal.Spot.{Spot}
use Rattle.ae_tree.specs.declared.tree.Path.{Path}
use Rattle.ae_tree.specs.Plain.{Code, Expression, Item, Length}
use Rattle.ae_semantics.specs.Values.{Val, OfInt}
use Rattle.ae_semantics.specs.Places as places
use Rattle.ae_semantics.specs.Places.{Outcome, Fine, ◌>>=◌, State, PlaceFound, OpenedObject, walk_to, open_place}
use Rattle.ae_semantics.specs.Expressions.{value, number, numbers, item}
use Rattle.ae_reads.specs.Sights.{array_in, item_of}

-- three in a row group either way
with_joined : {A B C : Type 0} (o : Outcome A) (f : A → Outcome B) (g : B → Outcome C)
    → (o >>= λ x. f x >>= g) ≡ ((o >>= f) >>= g)
with_joined (Fine x) f g = refl
with_joined (places.Traps code) f g = refl
with_joined places.Lacks f g = refl

-- the length of the array at the place to which a path leads
pub length_of_array : (p : Code) (s : State) (path : Path) (at : Spot) (x : PlaceFound) → walk_to p s path ≡ Fine x
    → value p s (Length path at) ≡ (array_in p s x >>= λ ns. Fine (OfInt (pos (length ns))))
length_of_array p s path at x w =
    ap (λ o. (o >>= open_place p s) >>= λ y. numbers y.tree >>= λ ns. Fine (OfInt (pos (length ns)))) w
    ∙ with_joined (open_place p s x) (λ y. numbers y.tree) (λ ns. Fine (OfInt (pos (length ns))))

-- the item of the array at the place to which a path leads, once the index is known
pub item_of_array : (p : Code) (s : State) (path : Path) (e : Expression) (x : PlaceFound) (v : Val) (n : ℤ)
    → walk_to p s path ≡ Fine x → value p s e ≡ Fine v → number v ≡ Fine n
    → value p s (Item path e) ≡ (array_in p s x >>= λ ns. item_of ns n)
item_of_array p s path e x v n w known is =
    ap (λ o. o >>= λ y. value p s e >>= λ u. number u >>= λ m. open_place p s y >>= λ z. item z m) w
    ∙ ap (λ o. o >>= λ u. number u >>= λ m. open_place p s x >>= λ z. item z m) known
    ∙ ap (λ o. o >>= λ m. open_place p s x >>= λ z. item z m) is
    ∙ with_joined (open_place p s x) (λ z. numbers z.tree) (λ ns. item_of ns n)
