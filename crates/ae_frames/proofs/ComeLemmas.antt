-- What comes back by what was kept is what comes back of what was taken.
use Rattle.std.proofs.Common.{◌≡◌, ◌∙◌, ℕ, List, [], ◌∷◌, Option, None, Some, refl, ap}
use Rattle.std.specs.Prelude.{option_map}
use Rattle.ae_semantics.specs.Places.{Outcome, Fine, Traps, Lacks, ◌>>=◌, there, State, Bound, write}
use Rattle.ae_semantics.specs.Calls.{without_moved}
use Rattle.ae_frames.specs.Granting.{LentGroup}
use Rattle.ae_frames.specs.Kept.{ComesBack, comes_back, brought_back, values_brought_back, groups_come_back}
use Rattle.ae_frames.specs.Returns.{value_returned, values_from, one_written, all_written, groups_from, group_put}
use Rattle.ae_frames.specs.Returns.{groups_put}

-- groups come back as they were taken
groups_come : (ls : List LentGroup) (after s : State)
    → groups_come_back ls after s ≡ groups_put (groups_from after.groups ls) s
groups_come [] after s = refl
groups_come (l ∷ ls) after s = groups_come ls after (group_put (l.holder, after.groups l.group) s)

-- one value comes back as it was taken
value_comes : (x : ComesBack) (after s : State)
    → comes_back x after s ≡ one_written (value_returned after.locals x) s
value_comes x after s = by_local (after.locals x.name)
  where
    by_local : (o : Option Bound) → (there o >>= λ b. write s x.at b.value)
        ≡ (there (option_map (λ (b : Bound). b.value) o) >>= write s x.at)
    by_local None = refl
    by_local (Some b) = refl

-- what goes on alike comes to the same
go_on_alike : {A B : Type 0} (o : Outcome A) (f g : A → Outcome B) → ((x : A) → f x ≡ g x) → (o >>= f) ≡ (o >>= g)
go_on_alike (Fine x) f g same = same x
go_on_alike (Traps code) f g same = refl
go_on_alike Lacks f g same = refl

-- all values come back as they were taken
values_come : (bs : List ComesBack) (after s : State)
    → values_brought_back bs after s ≡ all_written (values_from after.locals bs) s
values_come [] after s = refl
values_come (x ∷ xs) after s =
    (go_on_alike) (comes_back x after s) (values_brought_back xs after) (all_written (values_from after.locals xs))
    (λ t. values_come xs after t)
    ∙ ap (λ o. o >>= all_written (values_from after.locals xs)) (value_comes x after s)

-- all comes back as it was taken
pub comes_as_taken : (bs : List ComesBack) (ls : List LentGroup) (gone : List ℕ) (after s : State)
    → brought_back bs ls gone after s
    ≡ all_written (values_from after.locals bs) (groups_put (groups_from after.groups ls) (without_moved gone s))
comes_as_taken bs ls gone after s =
    ap (values_brought_back bs after) (groups_come ls after (without_moved gone s))
    ∙ values_come bs after (groups_put (groups_from after.groups ls) (without_moved gone s))
