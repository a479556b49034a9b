-- What judged statements declare is no group that is known outside of their block.
use Rattle.std.proofs.Common.{◌≡◌, refl, ap, sym, ◌∙◌, subst, ℕ, nat_eq, Bool, true, false, not, if◌then◌else◌}
use Rattle.std.proofs.Common.{[], ◌∷◌, ◌++◌, Option, None, Some}
use Rattle.std.specs.Prelude.{is_some}
use Rattle.std.proofs.lemmas.Bool.{eqb-true}
use Rattle.std.proofs.lemmas.List.{append-nil}
use Rattle.ae_text.specs.declared.refusal.Spot.{Spot}
use Rattle.ae_text.specs.declared.refusal.Rule.TheVariants as rule
use Rattle.ae_tree.specs.declared.tree.NameAt.{NameAt}
use Rattle.ae_tree.specs.Form.{form}
use Rattle.ae_tree.specs.Plain.{Definition, Code}
use Rattle.ae_tree.specs.Plain.{Action, Declares, Assigns, Stores, StoresAt, Calls, Chooses, ChoosesElse, Repeats}
use Rattle.ae_tree.specs.Plain.{Groups, Splits, Locks, Freezes, Shares, Prints, PrintsText, Asserts, Returns}
use Rattle.ae_rules.specs.declared.held.GroupPerm.{GroupPerm}
use Rattle.ae_rules.specs.Verdict.{Holds, require}
use Rattle.ae_rules.specs.Groups.{known, declare}
use Rattle.ae_rules.specs.Context.{Context}
use Rattle.ae_rules.specs.Laws.{Keeps}
use Rattle.ae_rules.specs.Statements.{judge_group, judge_statement}
use Rattle.ae_values.specs.Shapes.{NameShape, OfLocal, OfGroup, shape_in}
use Rattle.ae_names.specs.Known.{is_of_group, AreNew, names_declared}
use Rattle.ae_levels.specs.Levels.{NamesInOrder, Stays}
use Rattle.ae_levels.proofs.from_rules.PathLemmas.{first_holds}
use Rattle.ae_levels.proofs.from_rules.SeenLemmas.{required}

-- no name is a group of those that are known
pub none_new : (c : Context) → AreNew c []
none_new c x e = absurd (cc e)

-- the shape of a name among names and one more
abbrev or_shape : Option NameShape → Option NameShape → Option NameShape
or_shape None o = o
or_shape (Some s) o = Some s

or_shape_if : (test : Bool) (s : NameShape) (o r : Option NameShape)
    → (if test then Some s else or_shape o r) ≡ or_shape (if test then Some s else o) r
or_shape_if true s o r = refl
or_shape_if false s o r = refl

shape_with : (xs : NamesInOrder) (y : ℕ × NameShape) (z : ℕ)
    → shape_in (xs ++ (y ∷ [])) z ≡ or_shape (shape_in xs z) (if nat_eq y.0 z then Some y.1 else None)
shape_with [] y z = refl
shape_with (x ∷ xs) y z = ap (λ (o : Option NameShape). if nat_eq x.0 z then Some x.1 else o) (shape_with xs y z)
    ∙ or_shape_if (nat_eq x.0 z) x.1 (shape_in xs z) (if nat_eq y.0 z then Some y.1 else None)

-- a group among names and one more is among the names, or that one
group_or : (P : Type 0) (s : Option NameShape) (test : Bool) (y : NameShape) → (is_of_group s ≡ true → P)
    → (test ≡ true → is_of_group (Some y) ≡ true → P) → is_of_group (or_shape s (if test then Some y else None)) ≡ true → P
group_or P None true y h k e = k refl e
group_or P None false y h k e = absurd (cc e)
group_or P (Some s) test y h k e = h e

-- names with one more are new where the names are, and that one is no group, or a new one
new_with : (c : Context) (xs : NamesInOrder) (y : ℕ × NameShape) → AreNew c xs
    → (is_of_group (Some y.1) ≡ true → known c.group y.0 ≡ false) → AreNew c (xs ++ (y ∷ []))
new_with c xs y h k x e = group_or (known c.group x ≡ false) (shape_in xs x) (nat_eq y.0 x) y.1 (h x)
    (λ i g. subst (λ z. known c.group z ≡ false) (eqb-true y.0 x i) (k g))
    (sym (ap is_of_group (shape_with xs y x)) ∙ e)

-- ---- what is declared

is_not : (b c : Bool) → not b ≡ c → c ≡ true → b ≡ false
is_not true c e t = absurd (cc)
is_not false c e t = refl

-- a group that is declared was not known
group_unknown : (c : Context) (g : NameAt) (d : Context) → judge_group c g ≡ Holds d → known c.group g.name ≡ false
group_unknown c g d h =
    let a = first_holds (require (not (is_some (c.local g.name))) rule.DuplicateLocal g.at) _ d h in
    let b = first_holds (declare g c.group) _ d a.2 in
    let r = first_holds (require (not (known c.group g.name)) rule.DuplicateLocal g.at) _ b.0 b.1 in
    (is_not) (known c.group g.name) _ refl
    (required (not (known c.group g.name)) rule.DuplicateLocal g.at r.0 r.1)

-- what is not known here is not known outside
unknown_outside : (o b : Bool) → (o ≡ true → b ≡ true) → b ≡ false → o ≡ false
unknown_outside true b h e = absurd (cc (h refl))
unknown_outside false b h e = refl

nothing_more : (c : Context) (xs : NamesInOrder) → AreNew c xs → AreNew c (xs ++ [])
nothing_more c xs h = subst (λ (ys : NamesInOrder). AreNew c ys) (sym (append-nil xs)) h

-- names stay new with those that a judged statement declares
pub new_still : (p : Code) (m : Definition) (at : Spot) (a : Action) (c d outside : Context) (xs : NamesInOrder)
    → judge_statement p m at a c ≡ Holds d → Stays outside c → AreNew outside xs → AreNew outside (xs ++ names_declared a)
new_still p m at (Declares t x e) c d o xs h k n = new_with o xs (x.name, OfLocal (form t)) n (λ g. absurd (cc g))
new_still p m at (Groups g) c d o xs h k n = new_with o xs (g.name, OfGroup None) n
    (λ i. unknown_outside (known o.group g.name) (known c.group g.name) (k g.name) (group_unknown c g d h))
new_still p m at (Assigns x e) c d o xs h k n = nothing_more o xs n
new_still p m at (Stores path e) c d o xs h k n = nothing_more o xs n
new_still p m at (StoresAt path i e) c d o xs h k n = nothing_more o xs n
new_still p m at (Calls i) c d o xs h k n = nothing_more o xs n
new_still p m at (Chooses e i b) c d o xs h k n = nothing_more o xs n
new_still p m at (ChoosesElse e i b l f) c d o xs h k n = nothing_more o xs n
new_still p m at (Repeats e i b) c d o xs h k n = nothing_more o xs n
new_still p m at (Splits gs i b) c d o xs h k n = nothing_more o xs n
new_still p m at (Locks g i b) c d o xs h k n = nothing_more o xs n
new_still p m at (Freezes x) c d o xs h k n = nothing_more o xs n
new_still p m at (Shares x g) c d o xs h k n = nothing_more o xs n
new_still p m at (Prints e) c d o xs h k n = nothing_more o xs n
new_still p m at (PrintsText t) c d o xs h k n = nothing_more o xs n
new_still p m at (Asserts e) c d o xs h k n = nothing_more o xs n
new_still p m at (Returns e) c d o xs h k n = nothing_more o xs n

known_keeps : (o r : Option GroupPerm) → ((q : GroupPerm) → o ≡ Some q → r ≡ Some q) → is_some o ≡ true
    → is_some r ≡ true
known_keeps None r h e = absurd (cc e)
known_keeps (Some q) r h e = ap is_some (h q refl)

-- what is known outside stays known after a statement that keeps what is visible
pub stays_kept : (outside c d : Context) → Stays outside c → Keeps c d → Stays outside d
stays_kept o c d h k g e = known_keeps (c.group g) (d.group g) (k.group g) (h g e)
