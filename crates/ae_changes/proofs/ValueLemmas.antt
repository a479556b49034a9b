-- Where values come back to the places of a call's arguments, and names go away with them, only what the call writes
-- changes.
use Rattle.std.proofs.Common.{◌≡◌, refl, sym, ap, ◌∙◌, subst, ℕ, Bool, true, false, not, if◌then◌else◌, List, [], ◌∷◌}
use Rattle.std.proofs.Common.{map, zip, Option, None, Some}
use Rattle.std.specs.Prelude.{filter_map}
use Rattle.std.proofs.lemmas.Bool.{and_parts, not-true}
use Rattle.ae_tree.specs.declared.tree.Path.{Path}
use Rattle.ae_tree.specs.declared.form.Perm.{Perm}
use Rattle.ae_tree.specs.declared.form.Perm.TheVariants as perm
use Rattle.ae_tree.specs.declared.form.Kind.{Kind}
use Rattle.ae_tree.specs.declared.form.Form.{Form}
use Rattle.ae_tree.specs.declared.form.Form.TheVariants as f
use Rattle.ae_tree.specs.Plain.{Code, Expression, Read}
use Rattle.ae_rules.specs.declared.held.Held.{Held}
use Rattle.ae_rules.specs.declared.uses.Resource.TheVariants as resource
use Rattle.ae_rules.specs.Edges.{Uses}
use Rattle.ae_rules.specs.Verdict.{Holds, fine, in_turn, given}
use Rattle.ae_rules.specs.Forms.{is_unique, form_with}
use Rattle.ae_rules.specs.Context.{Context, access}
use Rattle.ae_rules.specs.Into.{Source, Null, From, source, moves, source_moves, name_into}
use Rattle.ae_rules.specs.Calls.{Roots, ParamSlot, to_form, to_slot}
use Rattle.ae_rules.specs.Uses.{◌∪◌, of_each, of_found, write_use, walk_uses, given_uses, argument_uses}
use Rattle.ae_semantics.specs.Places.{Fine, ◌>>=◌, there, Bound, State, InLocal, Address, write}
use Rattle.ae_semantics.specs.Calls.{Argument, argument, each_argument, value_comes_back, put_back, values_back}
use Rattle.ae_soundness.specs.Returns.{name_away}
use Rattle.ae_soundness.proofs.KeptLemmas.{Shape, slot_as, taker_as, IsLentWhole, lent_so}
use Rattle.ae_soundness.proofs.LastingLemmas.{Gives, next_gives, then_gives}
use Rattle.ae_soundness.proofs.LeaveLemmas.{WasRead, was_read, same_unique}
use Rattle.ae_soundness.proofs.StandLemmas.{fine_first}
use Rattle.ae_changes.specs.Changes.{ChangesAsUsed}
use Rattle.ae_changes.proofs.from_rules.PathLemmas.{first_holds}
use Rattle.ae_changes.proofs.UsedLemmas.{IsWritten, Covers, written_left, local_itself, covers_left, covers_right}
use Rattle.ae_changes.proofs.UsedLemmas.{covers_then}
use Rattle.ae_changes.proofs.WriteLemmas.{BaseWritten, AreWritten, write_changes}
use Rattle.ae_changes.proofs.BaseLemmas.{StandsUnder, walk_under}
use Rattle.ae_changes.proofs.MovedLemmas.{as_list, each_written}
use Rattle.ae_changes.proofs.ActLemmas.{FitsRight}

-- what an argument uses for its slot
abbrev pub slot_uses : Code → Context → ParamSlot × Expression → Uses
slot_uses p c x = argument_uses p c x.0.form x.1

-- ---- names that go away

path_written : (p : Code) (c : Context) (q : Perm) (path : Path)
    → AreWritten (given_uses p c q (From path)) (as_list (moves q path))
path_written p c perm.Unique path = (
  written_left (write_use path.root.name) (walk_uses p c path) (resource.Local path.root.name)
      (local_itself path.root.name),
  tt,
)
path_written p c perm.Immutable path = tt
path_written p c perm.Lent path = tt
path_written p c (perm.Shared g) path = tt

source_written : (p : Code) (c : Context) (q : Perm) (o : Option Source)
    → AreWritten (of_found o (given_uses p c q)) (as_list (given o None (source_moves q)))
source_written p c q None = tt
source_written p c q (Some Null) = tt
source_written p c q (Some (From path)) = path_written p c q path

argument_written : (p : Code) (c : Context) (t : Form) (e : Expression)
    → AreWritten (argument_uses p c t e) (as_list (name_into t e))
argument_written p c f.Int e = tt
argument_written p c f.Bool e = tt
argument_written p c (f.Object q k) e = source_written p c q (source e)

slot_written : (p : Code) (c : Context) (x : ParamSlot × Expression)
    → AreWritten (slot_uses p c x) (as_list (name_away x))
slot_written p c x = by_away x.0.away
  where
    by_away : (b : Bool)
        → AreWritten (slot_uses p c x) (as_list (if b then name_into x.0.form x.1 else None))
    by_away true = argument_written p c x.0.form x.1
    by_away false = tt

-- The names that go away with arguments are written.
pub away_written : (p : Code) (c : Context) (xs : List (ParamSlot × Expression))
    → AreWritten (of_each (slot_uses p c) xs) (filter_map name_away xs)
away_written p c xs = each_written (slot_uses p c) name_away xs (slot_written p c)

-- ---- values that come back

root_written : (p : Code) (c : Context) (k : Kind) (path : Path)
    → IsWritten (argument_uses p c (f.Object perm.Unique k) (Read path)) (resource.Local path.root.name)
root_written p c k path = written_left (write_use path.root.name) (walk_uses p c path)
    (resource.Local path.root.name) (local_itself path.root.name)

-- the place from which a unique argument was read, and to which its value comes back, is written
place_written : (p : Code) (c : Context) (u : Uses) (s : State) (new : ℕ → ℕ) (w : Shape) (e : Expression)
    (x : Argument) (before mid : Roots) (at : Address) → FitsRight p c s
    → to_slot p c (slot_as new w, e) before ≡ Holds mid → argument p s e ≡ Fine x → x.from ≡ Some at
    → value_comes_back (slot_as (λ g. g) w) ≡ true → Covers (slot_uses p c (slot_as new w, e)) u
    → BaseWritten u at.base
place_written p c u s new w e x before mid at z h a i v k =
    let r : WasRead p s e at = was_read p s e x at a i in
    let both = and_parts (is_unique (form_with (λ g. g) w.form)) (not w.away) v in
    let q = lent_so p c (form_with new w.form) w.away r.path before mid (same_unique new w.form both.0)
    (not-true w.away both.1)
    (subst (λ (y : Expression). to_form p c (form_with new w.form) w.away y before ≡ Holds mid) r.is h) in
    let n : IsLentWhole p c before mid q.0 r.path = q.2 in
    let found = walk_under p c s z.members z.fits z.right r.path n.place r.place r.path.root.at n.is
    (subst (λ (y : Held). access c r.path.root.at y ≡ fine) (sym n.alone) refl) r.found in
    let local : r.place.at.base ≡ InLocal r.path.root.name
    = subst (λ (y : Held). StandsUnder r.path.root.name y r.place.at.base) n.alone found.1 in
    let root : IsWritten (slot_uses p c (slot_as new w, e)) (resource.Local r.path.root.name)
    = subst (λ (y : Expression). IsWritten (argument_uses p c (form_with new w.form) y)
    (resource.Local r.path.root.name)) (sym r.is)
    (subst (λ (t : Form). IsWritten (argument_uses p c t (Read r.path)) (resource.Local r.path.root.name)) (sym q.1)
    (root_written p c q.0 r.path)) in
    subst (λ (y : Address). BaseWritten u y.base) r.there
    (subst (BaseWritten u) (sym local) (k (resource.Local r.path.root.name) root))

one_value : (p : Code) (c : Context) (u : Uses) (s t : State) (new : ℕ → ℕ) (w : Shape) (e : Expression)
    (x : Argument) (before mid : Roots) → FitsRight p c s → to_slot p c (slot_as new w, e) before ≡ Holds mid
    → argument p s e ≡ Fine x → Covers (slot_uses p c (slot_as new w, e)) u → (v : State) → ChangesAsUsed c u s v
    → Gives (ChangesAsUsed c u s) (put_back (taker_as w, x) t v)
one_value p c u s t new w e x before mid z h a k v i = by_test (value_comes_back (slot_as (λ g. g) w)) refl
  where
    by_place : value_comes_back (slot_as (λ g. g) w) ≡ true → (o : Option Address) → x.from ≡ o
        → Gives (ChangesAsUsed c u s) (given o (Fine v)
        (λ at. there (t.locals w.name) >>= λ b. write v at b.value))
    by_place j None q = i
    by_place j (Some at) q = next_gives (ChangesAsUsed c u s) (there (t.locals w.name)) _
        (λ (b : Bound). write_changes c u s v at.base at.fields b.value
        (place_written p c u s new w e x before mid at z h a q j k) i)

    by_test : (b : Bool) → value_comes_back (slot_as (λ g. g) w) ≡ b → Gives (ChangesAsUsed c u s) (if b then
        given x.from (Fine v) (λ at. there (t.locals w.name) >>= λ b. write v at b.value)
        else Fine v)
    by_test true j = by_place j x.from refl
    by_test false j = i

-- Where what all parameters hold comes back, only what is written changes.
pub values_change : (p : Code) (c : Context) (u : Uses) (s t : State) (new : ℕ → ℕ) (ws : List Shape)
    (es : List Expression) (xs : List Argument) (before after : Roots) → FitsRight p c s
    → in_turn (to_slot p c) (zip (map (slot_as new) ws) es) before ≡ Holds after → each_argument p s es ≡ Fine xs
    → Covers (of_each (slot_uses p c) (zip (map (slot_as new) ws) es)) u → (v : State) → ChangesAsUsed c u s v
    → Gives (ChangesAsUsed c u s) (values_back (zip (map taker_as ws) xs) t v)
values_change p c u s t new [] es xs before after z h a k v i = i
values_change p c u s t new (w ∷ ws) es [] before after z h a k v i = i
values_change p c u s t new (w ∷ ws) [] (x ∷ xs) before after z h a k v i = absurd (cc a)
values_change p c u s t new (w ∷ ws) (e ∷ es) (x ∷ xs) before after z h a k v i =
    let first : ParamSlot × Expression = (slot_as new w, e) in
    let rest : List (ParamSlot × Expression) = zip (map (slot_as new) ws) es in
    let b = first_holds (to_slot p c first before) (in_turn (to_slot p c) rest) after h in
    let y = fine_first (argument p s e) (λ y. each_argument p s es >>= λ ys. Fine (y ∷ ys)) (x ∷ xs) a in
    let ys = fine_first (each_argument p s es) (λ ys. Fine (y.0 ∷ ys)) (x ∷ xs) y.2 in
    let same : y.0 ∷ ys.0 ≡ x ∷ xs = cc (ys.2) in
    let one : argument p s e ≡ Fine x = y.1 ∙ ap (λ (v : Argument). Fine v) (cc same) in
    let others : each_argument p s es ≡ Fine xs = ys.1 ∙ ap (λ (vs : List Argument). Fine vs) (cc same) in
    then_gives (ChangesAsUsed c u s) (ChangesAsUsed c u s) (put_back (taker_as w, x) t v)
    (values_back (zip (map taker_as ws) xs) t)
    (one_value p c u s t new w e x before b.0 z b.1 one
    (covers_then (slot_uses p c first) (slot_uses p c first ∪ of_each (slot_uses p c) rest) u
    (covers_left (slot_uses p c first) (of_each (slot_uses p c) rest)) k) v i)
    (λ y j. values_change p c u s t new ws es xs b.0 after z b.2 others
    (covers_then (of_each (slot_uses p c) rest) (slot_uses p c first ∪ of_each (slot_uses p c) rest) u
    (covers_right (slot_uses p c first) (of_each (slot_uses p c) rest)) k) y j)
