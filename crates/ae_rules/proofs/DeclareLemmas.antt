-- What is known after judged lines: what was known before, and what the lines declare.
use Rattle.std.proofs.Common.{◌≡◌, refl, sym, ap, ◌∙◌, subst, ℕ, nat_eq, Bool, true, false, not, if◌then◌else◌, List}
use Rattle.std.proofs.Common.{[], ◌∷◌, ◌++◌, Option, None, Some}
use Rattle.std.specs.Prelude.{option_map, is_some}
use mathlib.Core.Path.{fun_ext}
use Rattle.ae_text.specs.declared.refusal.Spot.{Spot}
use Rattle.ae_tree.specs.declared.tree.NameAt.{NameAt}
use Rattle.ae_tree.specs.declared.tree.Ty.{Ty}
use Rattle.ae_tree.specs.declared.tree.Class.{Class}
use Rattle.ae_tree.specs.declared.form.Form.{Form}
use Rattle.ae_tree.specs.Form.{form}
use Rattle.ae_tree.specs.Plain.{Invocation, RightSide, Value, Taken, Zeros, Made, Returned, End, Next, Definition, Code}
use Rattle.ae_tree.specs.Plain.{Action, Declares, Assigns, Stores, StoresAt, Calls, Chooses, ChoosesElse, Repeats}
use Rattle.ae_tree.specs.Plain.{Groups, Splits, Locks, Freezes, Shares, Prints, PrintsText, Asserts, Returns}
use Rattle.ae_rules.specs.declared.held.Held.{Held}
use Rattle.ae_rules.specs.declared.held.Held.TheVariants as held
use Rattle.ae_rules.specs.Verdict.{Verdict, Holds, ◌>>=◌, in_turn, given}
use Rattle.ae_rules.specs.Types.{forms_type}
use Rattle.ae_rules.specs.Groups.{Groups as GroupsKnown}
use Rattle.ae_rules.specs.Groups.{known, declare}
use Rattle.ae_rules.specs.Lookups.{has_name, class_called}
use Rattle.ae_rules.specs.Into.{name_into}
use Rattle.ae_rules.specs.Calls.{Callee}
use Rattle.ae_rules.specs.Context.{Local, Context, is_visible, held_of, with_held, with_name_moved, closed}
use Rattle.ae_rules.specs.Statements.{judge_right, judge_let, judge_group, while_split, while_locked}
use Rattle.ae_rules.specs.Statements.{judge_statement, judge_lines}
use Rattle.ae_rules.specs.Effects.{all_moved, callee_for, form_at, call_effect, right_effect, effect, lines_effect}
use Rattle.ae_rules.specs.BlockLaws.{Shape, shape_of, with_let, with_lets, group_in_line, groups_in_lines, LinesDeclare}
use Rattle.ae_rules.proofs.VerdictLemmas.{Yields, gives, next, asks}
use Rattle.ae_rules.proofs.KeepLemmas.{right_keeps, statements_keep}
use Rattle.ae_rules.proofs.PathLemmas.{first_holds}
use Rattle.ae_rules.proofs.EffectLemmas.{right_is, effects_are_exact}

-- ---- contexts that have no more locals, and the same groups

-- what was no local is none, and the groups are the same
record NoMore (c d : Context) : Type 0 where
  local : (y : ℕ) → c.local y ≡ None → d.local y ≡ None
  group : d.group ≡ c.group

itself : (c : Context) → NoMore c c
itself c = record { local = λ y e. e; group = refl }

both : (c d e : Context) → NoMore c d → NoMore d e → NoMore c e
both c d e h k = record { local = λ y n. k.local y (h.local y n); group = k.group ∙ h.group }

mapped_if : (b : Bool) (g : Local → Local) (o : Option Local) → o ≡ None → (if b then option_map g o else o) ≡ None
mapped_if true g o e = ap (option_map g) e
mapped_if false g o e = e

held_more : (x : ℕ) (h : Held) (c : Context) → NoMore c (with_held x h c)
held_more x h c = record {
  local = λ y e. mapped_if (nat_eq x y) (λ (l : Local). record l { held = h })
      (c.local y) e;
  group = refl;
}

moved_more : (o : Option ℕ) (c : Context) → NoMore c (with_name_moved o c)
moved_more None c = itself c
moved_more (Some x) c = held_more x held.None c

all_more : (xs : List ℕ) (c : Context) → NoMore c (all_moved xs c)
all_more xs c = record {
  local = λ y e. mapped_if (has_name xs y) (λ (l : Local). record l { held = held.None })
      (c.local y) e;
  group = refl;
}

given_more : {A : Type 0} (o : Option A) (c : Context) (f : A → Context) → ((x : A) → NoMore c (f x))
    → NoMore c (given o c f)
given_more None c f h = itself c
given_more (Some x) c f h = h x

closed_if : (b : Bool) (o : Option Local) → b ≡ false → (if b then o else None) ≡ None
closed_if true o e = absurd (cc)
closed_if false o e = refl

closed_more : (c d : Context) → NoMore c (closed c d)
closed_more c d = record { local = λ y e. closed_if (is_some (c.local y)) (d.local y) (ap is_some e); group = refl }

call_more : (p : Code) (c : Context) (i : Invocation) → NoMore c (call_effect p c i)
call_more p c i = given_more (callee_for p c i.on i.method) c _ (λ (m : Callee). all_more _ c)

right_more : (p : Code) (c : Context) (t : Form) (e : RightSide) → NoMore c (right_effect p c t e)
right_more p c t (Value e) = moved_more (name_into t e) c
right_more p c t (Taken path at) = itself c
right_more p c t (Zeros e at) = itself c
right_more p c t (Made x gs args at) = given_more (class_called p x.name) c _ (λ (k : Class). all_more _ c)
right_more p c t (Returned i) = call_more p c i

-- ---- statements

-- what a statement that is no `let` and no `group` leaves
abbrev AddsNothing : Code → Definition → Action → Context → Type 0
AddsNothing p m a c = NoMore c (effect p m a c)

shape_kept : (c d : Context) (y : ℕ) (o : Option Local) → c.local y ≡ o → NoMore c d
    → ((l : Local) → c.local y ≡ Some l → (h : Held) × (d.local y ≡ Some (record l { held = h })))
    → shape_of d y ≡ shape_of c y
shape_kept c d y None e n k = ap (option_map (λ (l : Local). (l.form, l.stays))) (n.local y e ∙ sym e)
shape_kept c d y (Some l) e n k =
    let r = k l e in
    ap (option_map (λ (z : Local). (z.form, z.stays))) r.1 ∙ sym (ap (option_map (λ (z : Local). (z.form, z.stays))) e)

-- what is declared by one statement
pub record Declared (a : Action) (c d : Context) : Type 0 where
  pub shape : (y : ℕ) → shape_of d y ≡ with_let a (shape_of c) y
  pub group : in_turn declare (group_in_line a) c.group ≡ Holds d.group

-- a statement that declares nothing
adds_nothing : (p : Code) (m : Definition) (at : Spot) (a : Action) (c d : Context)
    → judge_statement p m at a c ≡ Holds d → AddsNothing p m a c → (NoMore c d) × ((y : ℕ) → shape_of d y ≡ shape_of c y)
adds_nothing p m at a c d h n =
    let more : NoMore c d = subst (NoMore c) (sym ((effects_are_exact p m).0 at a c d h)) n in
    (more, λ y. shape_kept c d y (c.local y) refl more ((statements_keep p m at a c d h).local y))

plain : (a : Action) (c d : Context) → ((y : ℕ) → shape_of c y ≡ with_let a (shape_of c) y) → group_in_line a ≡ []
    → (NoMore c d) × ((y : ℕ) → shape_of d y ≡ shape_of c y) → Declared a c d
plain a c d s g k = record {
  shape = λ y. k.1 y ∙ s y;
  group = ap (λ (xs : List NameAt). in_turn declare xs c.group) g ∙ ap (λ (gs : GroupsKnown). Holds gs) (sym k.0.group);
}

let_shape : (b : Bool) (t : Form) (o : Option Local) (s : Option Shape)
    → option_map (λ (l : Local). (l.form, l.stays)) o ≡ s
    → option_map (λ (l : Local). (l.form, l.stays))
    (if b then Some (record { form = t; held = held_of t; stays = false }) else o)
    ≡ (if b then Some (t, false) else s)
let_shape true t o s h = refl
let_shape false t o s h = h

let_declares : (p : Code) (m : Definition) (c : Context) (t : Ty) (x : NameAt) (e : RightSide)
    → Yields (Declared (Declares t x e) c) (judge_let p c t x e)
let_declares p m c t x e =
    next (forms_type p (known c.group) false t) λ _ _.
    asks (not (is_visible c x.name)) _ _ λ _.
    next (judge_right p c (form t) e) λ r h.
    let more : NoMore c r = subst (NoMore c) (sym ((right_is p c (form t) e).value r h)) (right_more p c (form t) e) in
    gives (record {
      shape = λ y. let_shape (nat_eq x.name y) (form t) (r.local y) (shape_of c y)
          (shape_kept c r y (c.local y) refl more (((right_keeps p c (form t) e).value r h).local y));
      group = ap (λ (gs : GroupsKnown). Holds gs) (sym more.group);
    })

group_declares : (c : Context) (g : NameAt) → Yields (Declared (Groups g) c) (judge_group c g)
group_declares c g =
    asks (not (is_some (c.local g.name))) _ _ λ _.
    next (declare g c.group) λ gs h.
    gives (record { shape = λ y. refl; group = ap (λ (v : Verdict GroupsKnown). v >>= in_turn declare []) h })

pub declares : (p : Code) (m : Definition) (at : Spot) (a : Action) (c d : Context)
    → judge_statement p m at a c ≡ Holds d → Declared a c d
declares p m at (Declares t x e) c d h = (let_declares p m c t x e).value d h
declares p m at (Groups g) c d h = (group_declares c g).value d h
declares p m at (Assigns x e) c d h = plain (Assigns x e) c d (λ y. refl) refl (adds_nothing p m at (Assigns x e) c d h
    (given_more (c.local x.name) c _
    (λ (l : Local). both c (right_effect p c l.form e)
    (with_held x.name (held_of l.form) (right_effect p c l.form e)) (right_more p c l.form e)
    (held_more x.name (held_of l.form) (right_effect p c l.form e)))))
declares p m at (Stores path e) c d h = plain (Stores path e) c d (λ y. refl) refl
    (adds_nothing p m at (Stores path e) c d h
    (given_more (form_at p c path) c _ (λ (t : Form). moved_more (name_into t e) c)))
declares p m at (StoresAt path i e) c d h = plain (StoresAt path i e) c d (λ y. refl) refl
    (adds_nothing p m at (StoresAt path i e) c d h (itself c))
declares p m at (Calls i) c d h = plain (Calls i) c d (λ y. refl) refl
    (adds_nothing p m at (Calls i) c d h (call_more p c i))
declares p m at (Chooses e n b) c d h = plain (Chooses e n b) c d (λ y. refl) refl
    (adds_nothing p m at (Chooses e n b) c d h (itself c))
declares p m at (ChoosesElse e n b k b') c d h = plain (ChoosesElse e n b k b') c d (λ y. refl) refl
    (adds_nothing p m at (ChoosesElse e n b k b') c d h (closed_more c (lines_effect p m b' c)))
declares p m at (Repeats e n b) c d h = plain (Repeats e n b) c d (λ y. refl) refl
    (adds_nothing p m at (Repeats e n b) c d h (itself c))
declares p m at (Splits gs n b) c d h = plain (Splits gs n b) c d (λ y. refl) refl
    (adds_nothing p m at (Splits gs n b) c d h (closed_more c (lines_effect p m b (while_split gs c))))
declares p m at (Locks g n b) c d h = plain (Locks g n b) c d (λ y. refl) refl
    (adds_nothing p m at (Locks g n b) c d h (closed_more c (lines_effect p m b (while_locked g.name c))))
declares p m at (Freezes x) c d h = plain (Freezes x) c d (λ y. refl) refl
    (adds_nothing p m at (Freezes x) c d h (held_more x.name held.Immutable c))
declares p m at (Shares x g) c d h = plain (Shares x g) c d (λ y. refl) refl
    (adds_nothing p m at (Shares x g) c d h (held_more x.name (held.Shared g.name) c))
declares p m at (Prints e) c d h = plain (Prints e) c d (λ y. refl) refl
    (adds_nothing p m at (Prints e) c d h (itself c))
declares p m at (PrintsText s) c d h = plain (PrintsText s) c d (λ y. refl) refl
    (adds_nothing p m at (PrintsText s) c d h (itself c))
declares p m at (Asserts e) c d h = plain (Asserts e) c d (λ y. refl) refl
    (adds_nothing p m at (Asserts e) c d h (itself c))
declares p m at (Returns e) c d h = plain (Returns e) c d (λ y. refl) refl
    (adds_nothing p m at (Returns e) c d h (given_more m.result c _ (λ t. moved_more (name_into (form t) e) c)))

-- ---- lines

declared_both : (xs ys : List NameAt) (gs hs : GroupsKnown) → in_turn declare xs gs ≡ Holds hs
    → in_turn declare (xs ++ ys) gs ≡ in_turn declare ys hs
declared_both [] ys gs hs e = ap (in_turn declare ys) (some_value e)
  where
    some_value : Holds gs ≡ Holds hs → gs ≡ hs
    some_value h = cc
declared_both (x ∷ xs) ys gs hs e =
    let r = first_holds (declare x gs) (in_turn declare xs) hs e in
    ap (λ (v : Verdict GroupsKnown). v >>= in_turn declare (xs ++ ys)) r.1 ∙ declared_both xs ys r.0 hs r.2

pub lines_declare : LinesDeclare
lines_declare p m End c d h = (
  λ x. ap (λ (z : Context). shape_of z x) (sym (same_value h)),
  ap (λ (z : Context). Holds z.group) (same_value h),
)
  where
    same_value : Holds c ≡ Holds d → c ≡ d
    same_value e = cc
lines_declare p m (Next at a rest) c d h =
    let r = first_holds (judge_statement p m at a c) (judge_lines p m rest) d h in
    let k : Declared a c r.0 = declares p m at a c r.0 r.1 in
    let l = lines_declare p m rest r.0 d r.2 in
    let s : shape_of r.0 ≡ with_let a (shape_of c) = fun_ext k.shape in (
      λ x. l.0 x ∙ ap (λ (z : ℕ → Option Shape). with_lets rest z x) s,
      declared_both (group_in_line a)
          (groups_in_lines rest) c.group r.0.group k.group ∙ l.1,
    )
