-- Which names are judged to move, and that a state keeps fitting where they do.
use Rattle.std.proofs.Common.{◌≡◌, refl, sym, ap, ◌∙◌, subst, ℕ, nat_eq, Bool}
use Rattle.std.proofs.Common.{true, false, ◌&&◌, if◌then◌else◌, List, [], ◌∷◌, Option, None, Some}
use Rattle.std.specs.Prelude.{option_map, ⊤}
use Rattle.std.proofs.lemmas.Bool.{and_parts}
use Rattle.ae_text.specs.declared.refusal.Spot.{Spot}
use Rattle.ae_text.specs.declared.refusal.Rule.TheVariants as rule
use Rattle.ae_tree.specs.declared.tree.NameAt.{NameAt}
use Rattle.ae_tree.specs.declared.tree.Path.{Path}
use Rattle.ae_tree.specs.declared.form.Perm.{Perm}
use Rattle.ae_tree.specs.declared.form.Perm.TheVariants as perm
use Rattle.ae_tree.specs.declared.form.Kind.{Kind}
use Rattle.ae_tree.specs.declared.form.Form.{Form}
use Rattle.ae_tree.specs.declared.form.Form.TheVariants as f
use Rattle.ae_tree.specs.Plain.{Code, Expression, Number, Truth, Nothing, Read, Item, Length, Grouped, Negated, Minus}
use Rattle.ae_tree.specs.Plain.{Binary}
use Rattle.ae_rules.specs.declared.held.Held.{Held}
use Rattle.ae_rules.specs.declared.held.Held.TheVariants as held
use Rattle.ae_rules.specs.Verdict.{Holds, require, found, in_turn}
use Rattle.ae_rules.specs.Forms.{is_object, is_object_of}
use Rattle.ae_rules.specs.Lookups.{is_empty}
use Rattle.ae_rules.specs.Context.{Local, Context, with_name_moved}
use Rattle.ae_rules.specs.Walks.{Place, step, walk, is_name}
use Rattle.ae_rules.specs.Expressions.{expression_spot}
use Rattle.ae_rules.specs.Into.{may_leave, into_perm, path_fits, moves, fits, name_into, into}
use Rattle.ae_semantics.specs.Places.{State}
use Rattle.ae_semantics.specs.Calls.{without_moved}
use Rattle.ae_semantics.specs.Meaning.{name_moved}
use Rattle.ae_soundness.specs.Fits.{FitsContext}
use Rattle.ae_soundness.proofs.LocalLemmas.{IsObjectThere, holding, moved_name}
use Rattle.ae_soundness.proofs.from_rules.PathLemmas.{first_holds, mapped}
use Rattle.ae_soundness.proofs.from_rules.SeenLemmas.{found_is, required}

-- ---- names that move

-- each local that is known after was known before, with the same form
abbrev pub KeepsForms : Context → Context → Type 0
KeepsForms c d = (x : ℕ) (k : Local) → d.local x ≡ Some k → (l : Local) × (c.local x ≡ Some l) × (l.form ≡ k.form)

-- No form changes where nothing does.
pub keeps_itself : (c : Context) → KeepsForms c c
keeps_itself c x k e = (k, e, refl)

-- No form changes where another thing is held of a local.
pub held_keeps : (c d : Context) (x y : ℕ) (h : Held) → KeepsForms c d → (b : Bool) (k : Local)
    → (if b then option_map (holding h) (d.local y) else d.local y) ≡ Some k
    → (l : Local) × (c.local y ≡ Some l) × (l.form ≡ k.form)
held_keeps c d x y h z true k e =
    let m = mapped (holding h) (d.local y) k e in
    let r = z y m.0 m.1 in (r.0, r.1, r.2 ∙ ap (λ (l : Local). l.form) m.2)
held_keeps c d x y h z false k e = z y k e

-- No form changes where a name moves.
pub moving_keeps : (c d : Context) (name : Option ℕ) → KeepsForms c d → KeepsForms c (with_name_moved name d)
moving_keeps c d None z = z
moving_keeps c d (Some x) z = λ y k e. held_keeps c d x y held.None z (nat_eq x y) k e

-- What was an object still is.
pub kept_object : (c d : Context) (x : ℕ) → KeepsForms c d → IsObjectThere c x → IsObjectThere d x
kept_object c d x z o k e =
    let r = z x k e in subst (λ (t : Form). is_object t ≡ true) r.2 (o r.0 r.1)

-- A walk without steps leads to the local itself.
pub bare_walk : (p : Code) (c : Context) (at : Spot) (xs : List NameAt) (w u : Place)
    → in_turn (step p c at) xs w ≡ Holds u → is_empty xs ≡ true → u ≡ w
bare_walk p c at [] w u e n = same_place u w (sym e)
  where
    same_place : (a b : Place) → Holds a ≡ Holds b → a ≡ b
    same_place a b h = cc h
bare_walk p c at (x ∷ xs) w u e n = absurd (cc n)

-- What is of an object's kind is an object.
pub object_of : (k : Kind) (t : Form) → is_object_of k t ≡ true → is_object t ≡ true
object_of k f.Int e = absurd (cc e)
object_of k f.Bool e = absurd (cc e)
object_of k (f.Object q l) e = refl

path_object : (p : Code) (c : Context) (k : Kind) (path : Path) (at : Spot) (u : ⊤)
    → path_fits p c perm.Unique k path at ≡ Holds u → IsObjectThere c path.root.name
path_object p c k path at u h l e =
    let a = first_holds (walk p c path) _ u h in
    let w : Place = a.0 in
    let b = first_holds (require (is_object_of k w.form) rule.TypeMismatch at) _ u a.2 in
    let d = first_holds (may_leave w.held at) (λ _. into_perm perm.Unique (is_name path) w.held at) u b.2 in
    let n = and_parts (is_name path) _ (required (is_name path && _) rule.NeedsUnique at u d.2) in
    let g = first_holds (found (c.local path.root.name) rule.UnknownName path.root.at) _ w a.1 in
    let same : w.form ≡ g.0.form = ap (λ (y : Place). y.form) (bare_walk p c path.root.at path.steps
    (record { form = g.0.form; held = g.0.held }) w g.2 n.0) in
    let it : g.0 ≡ l = cc (found_is (c.local path.root.name) rule.UnknownName path.root.at g.0 g.1, e) in
    subst (λ (y : Local). is_object y.form ≡ true) it
    (subst (λ (t : Form). is_object t ≡ true) same
    (object_of k w.form (required (is_object_of k w.form) rule.TypeMismatch at b.0 b.1)))

read_object : (p : Code) (c : Context) (q : Perm) (k : Kind) (path : Path) (at : Spot) (u : ⊤) (x : ℕ)
    → path_fits p c q k path at ≡ Holds u → moves q path ≡ Some x → IsObjectThere c x
read_object p c perm.Unique k path at u x h e = subst (IsObjectThere c) (cc e) (path_object p c k path at u h)
read_object p c perm.Immutable k path at u x h e = absurd (cc e)
read_object p c perm.Lent k path at u x h e = absurd (cc e)
read_object p c (perm.Shared g) k path at u x h e = absurd (cc e)

moving_object : (p : Code) (c : Context) (q : Perm) (k : Kind) (e : Expression) (u : ⊤) (x : ℕ)
    → fits p c (f.Object q k) e ≡ Holds u → name_into (f.Object q k) e ≡ Some x → IsObjectThere c x
moving_object p c q k (Number n at) u x h e = absurd (cc e)
moving_object p c q k (Truth b at) u x h e = absurd (cc e)
moving_object p c q k (Nothing at) u x h e = absurd (cc e)
moving_object p c q k (Read path) u x h e = read_object p c q k path (expression_spot (Read path)) u x h e
moving_object p c q k (Item path i) u x h e = absurd (cc e)
moving_object p c q k (Length path at) u x h e = absurd (cc e)
moving_object p c q k (Grouped i at) u x h e = absurd (cc e)
moving_object p c q k (Negated i at) u x h e = absurd (cc e)
moving_object p c q k (Minus i at) u x h e = absurd (cc e)
moving_object p c q k (Binary o a b) u x h e = absurd (cc e)

fitting_object : (p : Code) (c : Context) (t : Form) (e : Expression) (u : ⊤) (x : ℕ) → fits p c t e ≡ Holds u
    → name_into t e ≡ Some x → IsObjectThere c x
fitting_object p c f.Int e u x h i = absurd (cc i)
fitting_object p c f.Bool e u x h i = absurd (cc i)
fitting_object p c (f.Object q k) e u x h i = moving_object p c q k e u x h i

-- the name that is judged to move is told by the text, and is an object
pub record Moves (c : Context) (t : Form) (e : Expression) (name : Option ℕ) : Type 0 where
  pub is : name_into t e ≡ name
  pub object : (x : ℕ) → name_into t e ≡ Some x → IsObjectThere c x

-- The name that is judged to move is told by the text.
pub moves_in : (p : Code) (c : Context) (t : Form) (e : Expression) (name : Option ℕ) → into p c t e ≡ Holds name
    → Moves c t e name
moves_in p c t e name h =
    let a = first_holds (fits p c t e) (λ _. Holds (name_into t e)) name h in
    record { is = cc (a.2); object = λ x i. fitting_object p c t e a.0 x a.1 i }

-- A name that is judged to move into a form has no value then.
pub moved_in : (p : Code) (c : Context) (s : State) (t : Form) (e : Expression) (name : Option ℕ)
    → into p c t e ≡ Holds name → FitsContext p c s
    → FitsContext p (with_name_moved name c) (without_moved (name_moved t e) s)
moved_in p c s t e name h z =
    let m : Moves c t e name = moves_in p c t e name h in
    subst (λ (o : Option ℕ). FitsContext p (with_name_moved o c) (without_moved (name_moved t e) s)) m.is
    (moved_name p c s (name_into t e) z m.object)
