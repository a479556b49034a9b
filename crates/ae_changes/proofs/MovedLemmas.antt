-- Names that move are written.
use Rattle.std.proofs.Common.{sym, subst, ℕ, List, [], ◌∷◌, map, zip, Option}
use Rattle.std.proofs.Common.{None, Some}
use Rattle.std.specs.Prelude.{filter_map}
use Rattle.ae_tree.specs.declared.tree.NameAt.{NameAt}
use Rattle.ae_tree.specs.declared.tree.Ty.{Ty}
use Rattle.ae_tree.specs.declared.tree.Class.{Class}
use Rattle.ae_tree.specs.declared.form.Perm.{Perm}
use Rattle.ae_tree.specs.declared.form.Form.{Form}
use Rattle.ae_tree.specs.declared.form.Form.TheVariants as f
use Rattle.ae_tree.specs.Form.{form, bare_names}
use Rattle.ae_tree.specs.Plain.{Code, Definition, Expression}
use Rattle.ae_tree.specs.Plain.{RightSide, Value, Taken, Zeros, Made, Returned}
use Rattle.ae_rules.specs.declared.uses.Resource.TheVariants as resource
use Rattle.ae_rules.specs.Edges.{Uses}
use Rattle.ae_rules.specs.Verdict.{given}
use Rattle.ae_rules.specs.Lookups.{class_called, field_form}
use Rattle.ae_rules.specs.Context.{Context}
use Rattle.ae_rules.specs.Into.{Source, Null, From, source, moves, source_moves, name_into}
use Rattle.ae_rules.specs.Calls.{if_some}
use Rattle.ae_rules.specs.Uses.{◌∪◌, of_each, of_found, write_use, path_uses, source_uses, into_uses}
use Rattle.ae_rules.specs.Uses.{right_uses, return_uses}
use Rattle.ae_semantics.specs.Meaning.{name_moved, fields_moved, right_moved, result_moved}
use Rattle.ae_soundness.proofs.AwayLemmas.{filtered}
use Rattle.ae_changes.proofs.UsedLemmas.{Covers, written_left, written_right, local_itself}
use Rattle.ae_changes.proofs.WriteLemmas.{AreWritten}

-- ---- names

-- Names that are written are written by what covers them.
pub covers_names : (v u : Uses) (xs : List ℕ) → Covers v u → AreWritten v xs → AreWritten u xs
covers_names v u [] k w = tt
covers_names v u (x ∷ xs) k w = (k (resource.Local x) w.0, covers_names v u xs k w.1)

-- ---- names that move into a form

-- the name, if there is one
abbrev pub as_list : Option ℕ → List ℕ
as_list o = given o [] (λ x. x ∷ [])

found_written : (o : Option ℕ) → AreWritten (of_found o write_use) (as_list o)
found_written None = tt
found_written (Some x) = (local_itself x, tt)

source_written : (p : Code) (c : Context) (q : Perm) (o : Option Source)
    → AreWritten (of_found o (source_uses p c q)) (as_list (given o None (source_moves q)))
source_written p c q None = tt
source_written p c q (Some Null) = tt
source_written p c q (Some (From path)) = covers_names (of_found (moves q path) write_use)
    (source_uses p c q (From path)) (as_list (moves q path))
    (λ r h. written_right (path_uses p c path) (of_found (moves q path) write_use) r h) (found_written (moves q path))

-- A name that moves into a form is written.
pub into_written : (p : Code) (c : Context) (t : Form) (e : Expression)
    → AreWritten (into_uses p c t e) (name_moved t e)
into_written p c f.Int e = tt
into_written p c f.Bool e = tt
into_written p c (f.Object q k) e = source_written p c q (source e)

first_written : (u v : Uses) (o : Option ℕ) (xs : List ℕ) → AreWritten u (as_list o) → AreWritten v xs
    → AreWritten (u ∪ v) (if_some o xs)
first_written u v None xs h k = covers_names v (u ∪ v) xs (λ r. written_right u v r) k
first_written u v (Some x) xs h k = (
  written_left u v (resource.Local x) h.0,
  covers_names v (u ∪ v) xs (λ r. written_right u v r) k,
)

-- Each of the names that move with a list is written.
pub each_written : {A : Type 0} (uses : A → Uses) (choose : A → Option ℕ) (xs : List A)
    → ((x : A) → AreWritten (uses x) (as_list (choose x))) → AreWritten (of_each uses xs) (filter_map choose xs)
each_written uses choose [] h = tt
each_written uses choose (x ∷ xs) h =
    subst (AreWritten (uses x ∪ of_each uses xs)) (sym (filtered choose x xs))
    (first_written (uses x) (of_each uses xs) (choose x) (filter_map choose xs) (h x)
    (each_written uses choose xs h))

fields_written : (p : Code) (c : Context) (gs : List NameAt) (es : List Expression) (o : Option Class)
    → AreWritten (of_found o (λ (k : Class). of_each (λ (y : Form × Expression). into_uses p c y.0 y.1)
    (zip (map (field_form k (bare_names gs)) k.fields) es))) (given o [] (fields_moved gs es))
fields_written p c gs es None = tt
fields_written p c gs es (Some k) = each_written (λ (y : Form × Expression). into_uses p c y.0 y.1)
    (λ (y : Form × Expression). name_into y.0 y.1) (zip (map (field_form k (bare_names gs)) k.fields) es)
    (λ y. into_written p c y.0 y.1)

-- A name that moves with a right side is written.
pub right_written : (p : Code) (c : Context) (t : Form) (e : RightSide)
    → AreWritten (right_uses p c t e) (right_moved p t e)
right_written p c t (Value e) = into_written p c t e
right_written p c t (Taken path at) = tt
right_written p c t (Zeros e at) = tt
right_written p c t (Made x gs es at) = fields_written p c gs es (class_called p x.name)
right_written p c t (Returned i) = tt

result_written : (p : Code) (c : Context) (e : Expression) (o : Option Ty)
    → AreWritten (of_found o (λ t. into_uses p c (form t) e)) (given o [] (λ t. name_moved (form t) e))
result_written p c e None = tt
result_written p c e (Some t) = into_written p c (form t) e

-- A name that moves with a method's result is written.
pub return_written : (p : Code) (m : Definition) (c : Context) (e : Expression)
    → AreWritten (return_uses p m c e) (result_moved m e)
return_written p m c e = result_written p c e m.result
