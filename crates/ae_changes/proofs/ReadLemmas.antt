-- What is read is not written.
use Rattle.std.proofs.Common.{◌≡◌, ◌≢◌, refl, ℕ, nat_eq, Bool, true, false, if◌then◌else◌}
use Rattle.std.proofs.Common.{List, [], ◌∷◌, ◌⊎◌, inl, inr, Option, None, Some}
use Rattle.std.proofs.lemmas.Bool.{eqb-true}
use Rattle.ae_text.specs.declared.refusal.Spot.{Spot}
use Rattle.ae_tree.specs.declared.tree.NameAt.{NameAt}
use Rattle.ae_tree.specs.declared.tree.Path.{Path}
use Rattle.ae_tree.specs.Plain.{Code, Expression, Number, Truth, Nothing, Read, Item, Length, Grouped, Negated, Minus}
use Rattle.ae_tree.specs.Plain.{Binary}
use Rattle.ae_rules.specs.declared.held.Held.{Held}
use Rattle.ae_rules.specs.declared.held.Held.TheVariants as held
use Rattle.ae_rules.specs.declared.uses.Resource.TheVariants as resource
use Rattle.ae_rules.specs.declared.uses.Mode.TheVariants as mode
use Rattle.ae_rules.specs.Edges.{Uses}
use Rattle.ae_rules.specs.Verdict.{Verdict, Holds, Broken, in_turn}
use Rattle.ae_rules.specs.Context.{Local, Context}
use Rattle.ae_rules.specs.Walks.{Place, step, walk}
use Rattle.ae_rules.specs.Uses.{◌∪◌, of_each, of_judged, of_found, is_seen, outside, read_use, write_use}
use Rattle.ae_rules.specs.Uses.{reach_use, steps_use, walk_uses, path_uses, end_uses, value_uses}
use Rattle.ae_semantics.specs.Contexts.{shuts_out}
use Rattle.ae_changes.proofs.from_rules.PathLemmas.{first_holds}
use Rattle.ae_changes.proofs.UsedLemmas.{written_either}

-- this local is not written
abbrev pub IsUnwritten : ℕ → Uses → Type 0
IsUnwritten x u = shuts_out (u (resource.Local x)) ≡ false

-- ---- uses put together

-- What neither writes both do not.
pub unwritten_both : (x : ℕ) (u v : Uses) → IsUnwritten x u → IsUnwritten x v → IsUnwritten x (u ∪ v)
unwritten_both x u v h k = by_use (shuts_out ((u ∪ v) (resource.Local x))) refl
  where
    by_either : (shuts_out (u (resource.Local x)) ≡ true) ⊎ (shuts_out (v (resource.Local x)) ≡ true) → ⊥
    by_either (inl e) = cc (e, h)
    by_either (inr e) = cc (e, k)

    by_use : (b : Bool) → shuts_out ((u ∪ v) (resource.Local x)) ≡ b → IsUnwritten x (u ∪ v)
    by_use false e = e
    by_use true e = absurd (by_either (written_either u v (resource.Local x) e))

-- What no verdict gives writes nothing.
pub unwritten_judged : {A : Type 0} (x : ℕ) (v : Verdict A) (u : A → Uses)
    → ((y : A) → v ≡ Holds y → IsUnwritten x (u y))
    → IsUnwritten x (of_judged v u)
unwritten_judged x (Holds y) u h = h y refl
unwritten_judged x (Broken rule at) u h = refl

-- What is not there writes nothing.
pub unwritten_found : {A : Type 0} (x : ℕ) (o : Option A) (u : A → Uses) → ((y : A) → o ≡ Some y → IsUnwritten x (u y))
    → IsUnwritten x (of_found o u)
unwritten_found x None u h = refl
unwritten_found x (Some y) u h = h y refl

-- Where none of a list writes, the list does not.
pub unwritten_each : {A : Type 0} (x : ℕ) (u : A → Uses) (xs : List A) → ((y : A) → IsUnwritten x (u y))
    → IsUnwritten x (of_each u xs)
unwritten_each x u [] h = refl
unwritten_each x u (y ∷ ys) h = unwritten_both x (u y) (of_each u ys) (h y) (unwritten_each x u ys h)

-- Where none of a list that is judged in turn writes, the list does not.
pub unwritten_turns : {A S : Type 0} (x : ℕ) (premise : A → S → Verdict S) (u : A → Uses)
    → ((y : A) (s t : S) → premise y s ≡ Holds t → IsUnwritten x (u y)) → (ys : List A) (s t : S)
    → in_turn premise ys s ≡ Holds t → IsUnwritten x (of_each u ys)
unwritten_turns x premise u h [] s t e = refl
unwritten_turns x premise u h (y ∷ ys) s t e =
    let a = first_holds (premise y s) (in_turn premise ys) t e in
    unwritten_both x (u y) (of_each u ys) (h y s a.0 a.1) (unwritten_turns x premise u h ys a.0 t a.2)

-- Outside a block no more is written.
pub unwritten_outside : (x : ℕ) (c : Context) (u : Uses) → IsUnwritten x u → IsUnwritten x (outside c u)
unwritten_outside x c u h = by_seen (is_seen c (resource.Local x))
  where
    by_seen : (b : Bool) → shuts_out (if b then u (resource.Local x) else None) ≡ false
    by_seen true = h
    by_seen false = refl

-- ---- single uses

-- A local that is read is not written.
pub unwritten_read : (x y : ℕ) → IsUnwritten x (read_use y)
unwritten_read x y = by_name (nat_eq y x)
  where
    by_name : (b : Bool) → shuts_out (if b then Some mode.Read else None) ≡ false
    by_name true = refl
    by_name false = refl

-- Another local is not written.
pub unwritten_write : (x y : ℕ) → (y ≢ x) → IsUnwritten x (write_use y)
unwritten_write x y h = by_name (nat_eq y x) refl
  where
    by_name : (b : Bool) → nat_eq y x ≡ b → shuts_out (if b then Some mode.Write else None) ≡ false
    by_name true e = absurd (h (eqb-true y x e))
    by_name false e = refl

unwritten_reach : (x : ℕ) (h : Held) → IsUnwritten x (reach_use h)
unwritten_reach x (held.Shared g) = refl
unwritten_reach x (held.Inner g) = refl
unwritten_reach x held.Unique = refl
unwritten_reach x (held.Split n) = refl
unwritten_reach x held.Immutable = refl
unwritten_reach x held.Lent = refl
unwritten_reach x held.None = refl

-- ---- paths and values

unwritten_steps : (p : Code) (c : Context) (x : ℕ) (at : Spot) (ys : List NameAt) (from : Place)
    → IsUnwritten x (steps_use p c at ys from)
unwritten_steps p c x at [] from = refl
unwritten_steps p c x at (y ∷ ys) from = unwritten_both x (reach_use from.held)
    (of_judged (step p c at y from) (steps_use p c at ys)) (unwritten_reach x from.held)
    (unwritten_judged x (step p c at y from) (steps_use p c at ys) (λ w e. unwritten_steps p c x at ys w))

-- A walk writes no local.
pub unwritten_walk : (p : Code) (c : Context) (x : ℕ) (path : Path) → IsUnwritten x (walk_uses p c path)
unwritten_walk p c x path = unwritten_found x (c.local path.root.name)
    (λ (l : Local). steps_use p c path.root.at path.steps (record { form = l.form; held = l.held }))
    (λ l e. unwritten_steps p c x path.root.at path.steps (record { form = l.form; held = l.held }))

-- A path that is read writes no local.
pub unwritten_path : (p : Code) (c : Context) (x : ℕ) (path : Path) → IsUnwritten x (path_uses p c path)
unwritten_path p c x path = unwritten_both x (read_use path.root.name) (walk_uses p c path)
    (unwritten_read x path.root.name)
    (unwritten_walk p c x path)

-- An object that is reached writes no local.
pub unwritten_end : (p : Code) (c : Context) (x : ℕ) (path : Path) → IsUnwritten x (end_uses p c path)
unwritten_end p c x path = unwritten_both x (walk_uses p c path) (of_judged (walk p c path) (λ w. reach_use w.held))
    (unwritten_walk p c x path) (unwritten_judged x (walk p c path) (λ w. reach_use w.held)
    (λ w e. unwritten_reach x w.held))

-- A value writes no local.
pub unwritten_value : (p : Code) (c : Context) (x : ℕ) (e : Expression) → IsUnwritten x (value_uses p c e)
unwritten_value p c x (Number n at) = refl
unwritten_value p c x (Truth b at) = refl
unwritten_value p c x (Nothing at) = refl
unwritten_value p c x (Read path) = unwritten_path p c x path
unwritten_value p c x (Item path e) = unwritten_both x (read_use path.root.name) (end_uses p c path ∪ value_uses p c e)
    (unwritten_read x path.root.name)
    (unwritten_both x (end_uses p c path) (value_uses p c e) (unwritten_end p c x path) (unwritten_value p c x e))
unwritten_value p c x (Length path at) = unwritten_both x (read_use path.root.name) (end_uses p c path)
    (unwritten_read x path.root.name) (unwritten_end p c x path)
unwritten_value p c x (Grouped e at) = unwritten_value p c x e
unwritten_value p c x (Negated e at) = unwritten_value p c x e
unwritten_value p c x (Minus e at) = unwritten_value p c x e
unwritten_value p c x (Binary o a b) = unwritten_both x (value_uses p c a) (value_uses p c b) (unwritten_value p c x a)
    (unwritten_value p c x b)
