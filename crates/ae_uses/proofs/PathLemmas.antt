-- What a path uses, step by step.
use Rattle.std.proofs.Common.{◌≡◌, ℕ, ◌<◌, ◌+◌, List, ◌∷◌, drop, get_or, length, None, refl, sym, ap, ◌∙◌, subst}
use Rattle.std.proofs.Common.{Result, Err}
use Rattle.std.proofs.lemmas.List.{drop_more}
use Rattle.ae_text.specs.declared.refusal.Deny.{Deny}
use Rattle.ae_text.specs.declared.refusal.Deny.TheVariants as deny
use Rattle.ae_text.specs.declared.refusal.Refusal.{Refusal}
use Rattle.ae_text.specs.declared.refusal.Spot.{Spot}
use Rattle.ae_tree.specs.declared.tree.NameAt.{NameAt}
use Rattle.ae_tree.specs.declared.tree.Path.{Path}
use Rattle.ae_tree.specs.Plain.{Code}
use Rattle.ae_rules.specs.Edges.{Uses}
use Rattle.ae_rules.specs.Answers.{Answers}
use Rattle.ae_rules.specs.Verdict.{Verdict, Holds, Broken, ◌>>=◌, in_turn}
use Rattle.ae_rules.specs.Context.{Context}
use Rattle.ae_rules.specs.Walks.{Place, step, walk}
use Rattle.ae_rules.specs.Uses.{nothing, ◌∪◌, of_judged, reach_use, steps_use, walk_uses, write_uses, root_written}
use Rattle.ae_uses.specs.declared.used.Used.{Used}
use Rattle.ae_uses.specs.Used.{Adds, Owes, given_by}
use Rattle.ae_uses.proofs.UsedLemmas.{adds_nothing_more, adds_one_then_other, owes_one_less, owes_nothing_more}

-- a judgement that is refused gives nothing
pub nothing_given_where_refused : {A B : Type 0} (v : Verdict A) (view : B → A) (judged : Result B Deny)
    → Answers v view judged → (broken : Refusal) × (judged ≡ Err (deny.Refused broken)) → given_by v ≡ None
nothing_given_where_refused {B} v view judged h (broken, e) =
    ap given_by (subst (λ (r : Result B Deny). Answers v view r) e h)

-- what a verdict that is broken gives is not used
pub nothing_of_broken : {A : Type 0} (v : Verdict A) (u : A → Uses) → given_by v ≡ None → of_judged v u ≡ nothing
nothing_of_broken (Holds x) u e = absurd (cc)
nothing_of_broken (Broken rule at) u e = refl

-- one step more is used
pub step_owes_rest : (p : Code) (c : Context) (at : Spot) (x : NameAt) (xs : List NameAt) (from d : Place)
    (u v w : Used) (whole : Uses)
    → Owes u whole v (steps_use p c at (x ∷ xs) from) → Adds v (reach_use from.held) w → step p c at x from ≡ Holds d
    → Owes u whole w (steps_use p c at xs d)
step_owes_rest p c at x xs from d u v w whole h k e =
    subst (λ (r : Verdict Place). Owes u whole w (of_judged r (steps_use p c at xs))) e
    (owes_one_less u v w whole (reach_use from.held) (of_judged (step p c at x from) (steps_use p c at xs)) h k)

-- a step that breaks a rule is the last
pub step_owes_nothing : (p : Code) (c : Context) (at : Spot) (x : NameAt) (xs : List NameAt) (from : Place)
    (u v w : Used) (whole : Uses)
    → Owes u whole v (steps_use p c at (x ∷ xs) from) → Adds v (reach_use from.held) w
    → given_by (step p c at x from) ≡ None → Adds u whole w
step_owes_nothing p c at x xs from u v w whole h k e =
    owes_nothing_more u w whole (subst (λ (a : Uses). Owes u whole w a)
    (nothing_of_broken (step p c at x from) (steps_use p c at xs) e)
    (owes_one_less u v w whole (reach_use from.held) (of_judged (step p c at x from) (steps_use p c at xs)) h k))

-- the same at a place of a list of steps
pub next_step_owes_rest : (p : Code) (c : Context) (at : Spot) (xs : List NameAt) (i : ℕ) (x : NameAt) (from d : Place)
    (u v w : Used) (whole : Uses) → i < length xs
    → Owes u whole v (steps_use p c at (drop i xs) from) → Adds v (reach_use from.held) w
    → step p c at (get_or xs i x) from ≡ Holds d → Owes u whole w (steps_use p c at (drop (i + 1) xs) d)
next_step_owes_rest p c at xs i x from d u v w whole l h k e = step_owes_rest p c at (get_or xs i x)
    (drop (i + 1) xs) from d u v w whole
    (subst (λ (ys : List NameAt). Owes u whole v (steps_use p c at ys from)) (drop_more xs i x l) h) k e

-- and so at a step that breaks a rule
pub next_step_owes_nothing : (p : Code) (c : Context) (at : Spot) (xs : List NameAt) (i : ℕ) (x : NameAt)
    (from : Place) (u v w : Used) (whole : Uses) → i < length xs
    → Owes u whole v (steps_use p c at (drop i xs) from) → Adds v (reach_use from.held) w
    → given_by (step p c at (get_or xs i x) from) ≡ None → Adds u whole w
next_step_owes_nothing p c at xs i x from u v w whole l h k e = step_owes_nothing p c at (get_or xs i x)
    (drop (i + 1) xs) from u v w whole
    (subst (λ (ys : List NameAt). Owes u whole v (steps_use p c at ys from)) (drop_more xs i x l) h) k e

-- a walk goes on by a step that breaks no rule
pub walk_goes_on_at : (p : Code) (c : Context) (at : Spot) (xs : List NameAt) (i : ℕ) (x : NameAt) (from d : Place)
    (v : Verdict Place) → i < length xs → v ≡ in_turn (step p c at) (drop i xs) from
    → step p c at (get_or xs i x) from ≡ Holds d → v ≡ in_turn (step p c at) (drop (i + 1) xs) d
walk_goes_on_at p c at xs i x from d v l e f =
    e ∙ ap (λ (ys : List NameAt). in_turn (step p c at) ys from) (drop_more xs i x l)
    ∙ ap (λ (w : Verdict Place). w >>= in_turn (step p c at) (drop (i + 1) xs)) f

-- a write: the path is walked, the object at its end is reached, and its root is used
pub write_adds_three : (p : Code) (c : Context) (path : Path) (d : Place) (u v w z : Used) → walk p c path ≡ Holds d
    → Adds u (walk_uses p c path) v → Adds v (reach_use d.held) w → Adds w (root_written d.held path.root.name) z
    → Adds u (write_uses p c path) z
write_adds_three p c path d u v w z e f g h =
    subst (λ (r : Verdict Place). Adds u ((walk_uses p c path ∪ of_judged r (λ (x : Place). reach_use x.held))
    ∪ of_judged r (λ (x : Place). root_written x.held path.root.name)) z) (sym e)
    (adds_one_then_other u w z (walk_uses p c path ∪ reach_use d.held) (root_written d.held path.root.name)
    (adds_one_then_other u v w (walk_uses p c path) (reach_use d.held) f g) h)

-- nothing more is used of a verdict that is broken
pub adds_no_more_of_broken : {A : Type 0} (v : Verdict A) (k : A → Uses) (u w : Used) (a : Uses)
    → given_by v ≡ None → Adds u a w → Adds u (a ∪ of_judged v k) w
adds_no_more_of_broken v k u w a e h = adds_one_then_other u w w a (of_judged v k) h
    (subst (λ (b : Uses). Adds w b w) (sym (nothing_of_broken v k e)) (adds_nothing_more w))
