-- Words for the examples of reports.
use Rattle.ae_rules.specs.Edges.{BlockUses, Edge, Before, Direct, Through, IsConflict}
use Rattle.std.proofs.Common.{◌≡◌, ◌≢◌, ◌<◌, ◌⊎◌, inl, inr, refl, sym, ap, subst, arith, ℕ, zero, suc, nat_eq, true}
use Rattle.std.proofs.Common.{false, not, ◌&&◌, Bool, if◌then◌else◌, List, [], ◌∷◌, ◌∙◌, Option, None, Some, Contains}
use Rattle.std.proofs.Common.{◌++◌, append-nil}
use mathlib.Core.Path.{fun_ext}
use Rattle.std.proofs.lemmas.Bool.Decides.{eqb_tells}
use Rattle.std.specs.Prelude.{slice_get}
use Rattle.ae_rules.specs.declared.uses.Resource.{Resource}
use Rattle.ae_rules.specs.declared.uses.Mode.{Mode}
use Rattle.ae_tree.specs.Plain.{Code}
use Rattle.ae_rules.specs.Verdict.{given}
use Rattle.ae_rules.specs.Uses.{nothing}
use Rattle.ae_rules.specs.Blocks.{scene_uses}
use Rattle.ae_rules.specs.Instances.{Instance, Point, InBlock, AtChoice, AtLoop, Nowhere, Parting, parting, IsFirstAt}
use Rattle.ae_rules.specs.Instances.{Ordered, Conflict, uses_from}
use Rattle.ae_semantics.specs.Observations.{Carried, Gave}
use Rattle.ae_semantics.specs.Means.{Asking}
use Rattle.ae_semantics.specs.declared.report.TraceLine.{TraceLine}
use Rattle.ae_semantics.specs.Report.{Event, CellReport, AllPairs, AllDiffer, of_cell, Leads}
use Rattle.ae_worked.proofs.MeaningWords.{nothing_out}
use Rattle.ae_worked.proofs.from_text.Basics.{second_of_both, first_of_both, none_is_no_some, empty_has_nothing}
use Rattle.std.proofs.lemmas.Option.{same_Some}
use Rattle.ae_worked.proofs.from_rules.EdgeLemmas.{forward}

-- ---- the things of short lists

pub one_thing : {A : Type 0} (x z : A) → Contains (x ∷ []) z → x ≡ z
one_thing x z (zero, l, e) = e
one_thing x z (suc k, l, e) = absurd (omega (arith, l))

pub of_two : {A : Type 0} (P : A → Type 0) (x y : A) → P x → P y → (z : A) → Contains (x ∷ y ∷ []) z → P z
of_two P x y p q z (zero, l, e) = subst P e p
of_two P x y p q z (suc zero, l, e) = subst P e q
of_two P x y p q z (suc (suc k), l, e) = absurd (omega (arith, l))

pub of_three : {A : Type 0} (P : A → Type 0) (x y w : A) → P x → P y → P w → (z : A) → Contains (x ∷ y ∷ w ∷ []) z
    → P z
of_three P x y w p q r z (zero, l, e) = subst P e p
of_three P x y w p q r z (suc zero, l, e) = subst P e q
of_three P x y w p q r z (suc (suc zero), l, e) = subst P e r
of_three P x y w p q r z (suc (suc (suc k)), l, e) = absurd (omega (arith, l))

pub pair_of_two : {A : Type 0} (rel : A → A → Type 0) (x y : A) → rel x y → AllPairs rel (x ∷ y ∷ [])
pair_of_two rel x y r = (λ z c. subst (rel x) (one_thing y z c) r, (λ z c. absurd (empty_has_nothing z c), tt))

pub two_differ : (m n : ℕ) → m ≢ n → AllDiffer (m ∷ n ∷ [])
two_differ m n e = pair_of_two {A = ℕ} (λ (k l : ℕ). k ≢ l) m n e

-- ---- what is carried, asked and answered, compared name by name

pub carried_same : (c d : Carried) → ((x : ℕ) → c.locals x ≡ d.locals x) → ((g : ℕ) → c.stores g ≡ d.stores g)
    → c.pieces ≡ d.pieces → c ≡ d
carried_same c d p q r = λ i. record { locals = fun_ext p i; stores = fun_ext q i; pieces = r i }

pub nothing_given : (c : Carried) → ((x : ℕ) → c.locals x ≡ None) → ((g : ℕ) → c.stores g ≡ None) → c.pieces ≡ None
    → Some (Gave c) ≡ Some (Gave nothing_out)
nothing_given c p q r = ap (λ (d : Carried). Some (Gave d)) (carried_same c nothing_out p q r)

pub asking_same : (x y : Asking) → x.cell ≡ y.cell → x.ask.path ≡ y.ask.path → x.ask.method ≡ y.ask.method
    → x.ask.block ≡ y.ask.block → x.ask.fuel ≡ y.ask.fuel → x.ask.depth ≡ y.ask.depth → x.ask.ins ≡ y.ask.ins → x ≡ y
asking_same x y a b c d e f g = λ i. record {
  cell = a i;
  ask = record { path = b i; method = c i; block = d i; fuel = e i; depth = f i; ins = g i };
}

pub one_same : {A : Type 0} (v x : A) → v ≡ x → v ∷ [] ≡ x ∷ []
one_same v x e = ap (λ z. z ∷ []) e

pub two_same : {A : Type 0} (v w x y : A) → v ≡ x → w ≡ y → v ∷ w ∷ [] ≡ x ∷ y ∷ []
two_same v w x y e d = λ i. e i ∷ d i ∷ []

pub and_false : (b : Bool) → (b && false) ≡ false
and_false true = refl
and_false false = refl

pub not_both : (b : Bool) → b ≡ false → b ≡ true → ⊥
not_both b e d = cc

-- ---- lines that are printed

pub one_line : (xs : List ℕ) → xs ≡ (xs ++ []) ++ []
one_line xs = sym (append-nil (xs ++ []) ∙ append-nil xs)

pub two_lines : (xs ys : List ℕ) → xs ++ ys ≡ (xs ++ (ys ++ [])) ++ []
two_lines xs ys = sym (append-nil (xs ++ (ys ++ [])) ∙ ap (λ (zs : List ℕ). xs ++ zs) (append-nil ys))

-- ---- what is ordered and what conflicts

-- where two instances part that do
abbrev pub fork_of : Code → Instance → Instance → Parting
fork_of p q r = given (parting p q r)
    (record { at = Nowhere; left = 0; left_rest = []; right = 0; right_rest = [] }) (λ (k : Parting). k)

-- instances that do not part are not ordered
pub unparted : (p : Code) (q r : Instance) → parting p q r ≡ None → Ordered p q r → ⊥
unparted p q r e o = none_is_no_some (sym e ∙ o.parts)

-- where it is known how they part
pub part_so : (p : Code) (q r : Instance) (k : Parting) → parting p q r ≡ Some k
    → (IsFirstAt p k.at k.left k.right → ⊥) → Ordered p q r → ⊥
part_so p q r k e h o = h (subst (λ (x : Parting). IsFirstAt p x.at x.left x.right)
    (same_Some o.fork k (sym o.parts ∙ e)) o.order)

abbrev pub ConflictAt : Code → Parting → Resource → Type 0
ConflictAt p k r = IsConflict (uses_from p k.at (k.left ∷ k.left_rest) r)
    (uses_from p k.at (k.right ∷ k.right_rest) r)

pub conflict_so : (p : Code) (q r : Instance) (k : Parting) → parting p q r ≡ Some k
    → ((s : Resource) → ConflictAt p k s → ⊥) → Conflict p q r → ⊥
conflict_so p q r k e h o = h o.on
    (subst (λ (x : Parting). ConflictAt p x o.on) (same_Some o.fork k (sym o.parts ∙ e)) o.conflict)

pub not_back : (u : BlockUses) (i j : ℕ) → j < suc i → Before u i j → ⊥
not_back u i j l c = let m : i < j = forward u i j c in omega (arith, l, m)

-- a chain to the next statement is an edge
next_edge : (u : BlockUses) (i j : ℕ) → j ≡ suc i → Before u i j → Edge u i j
next_edge u _ _ e (Direct i j d) = d
next_edge u _ _ e (Through i j k d c) = let l : i < j = d.before in let m : j < k = forward u j k c
    in absurd (omega (arith, l, m, e))

-- how the statements of a block use each resource
abbrev pub used_at : Code → Point → BlockUses
used_at p (InBlock locked s) = scene_uses p s
used_at p (AtChoice locked s other) = λ i. nothing
used_at p (AtLoop locked uses s) = λ i. nothing
used_at p Nowhere = λ i. nothing

-- in a block that lies in no atomic block
abbrev pub is_open : Point → Bool
is_open (InBlock locked s) = not locked
is_open (AtChoice locked s other) = false
is_open (AtLoop locked uses s) = false
is_open Nowhere = false

-- in such a block only a chain of edges orders
first_by_chain : (p : Code) (at : Point) (i j : ℕ) → is_open at ≡ true → IsFirstAt p at i j
    → Before (used_at p at) i j
first_by_chain p (InBlock true s) i j e h = absurd (cc)
first_by_chain p (InBlock false s) i j e (inl x) = absurd (not_both false refl x.0)
first_by_chain p (InBlock false s) i j e (inr c) = c
first_by_chain p (AtChoice locked s other) i j e h = absurd (cc)
first_by_chain p (AtLoop locked uses s) i j e h = absurd (cc)
first_by_chain p Nowhere i j e h = absurd (cc)

-- a later statement is not first
pub backwards : (p : Code) (at : Point) (i j : ℕ) → is_open at ≡ true → j < suc i → IsFirstAt p at i j → ⊥
backwards p at i j e l h = not_back (used_at p at) i j l (first_by_chain p at i j e h)

-- a statement is not first before the next one where the two conflict on nothing
pub side_by_side : (p : Code) (at : Point) (i j : ℕ) → is_open at ≡ true → j ≡ suc i
    → ((r : Resource) → IsConflict (used_at p at i r) (used_at p at j r) → ⊥)
    → IsFirstAt p at i j → ⊥
side_by_side p at i j e n h f =
    let d : Edge (used_at p at) i j = next_edge (used_at p at) i j n (first_by_chain p at i j e f) in
    h d.on d.conflict

abbrev pub no_mode : Option Mode
no_mode = None

-- what is not used inside is not used outside
pub hidden : (b : Bool) → (if b then no_mode else no_mode) ≡ no_mode
hidden true = refl
hidden false = refl

-- what is used nowhere conflicts with nothing
pub unused : (o n : Option Mode) → o ≡ None → IsConflict o n → ⊥
unused o n e h = subst (λ (x : Option Mode). IsConflict x n) e h

-- ---- legal order

pub one_cell : (p : Code) (es : List Event) (x : CellReport) → Leads p (of_cell 0 es) x.first x.last
    → (i : ℕ) (c : CellReport) → slice_get (x ∷ []) i ≡ Some c → Leads p (of_cell i es) c.first c.last
one_cell p es x l zero c e = subst (λ (z : CellReport). Leads p (of_cell 0 es) z.first z.last) (same_Some x c e) l
one_cell p es x l (suc i) c e = absurd (none_is_no_some e)

-- ---- numbers that differ

pub by_test : {A : Type 0} (m n : ℕ) → (nat_eq m n ≡ true → A) → (nat_eq m n ≡ false → A) → A
by_test {A = A} m n f g = tested (eqb_tells m n)
  where
    tested : ((nat_eq m n ≡ true) × (m ≡ n)) ⊎ ((nat_eq m n ≡ false) × (m ≢ n)) → A
    tested (inl x) = f x.0
    tested (inr x) = g x.0

pub differs_by : (m n : ℕ) → ((nat_eq m n ≡ true) × (m ≡ n)) ⊎ ((nat_eq m n ≡ false) × (m ≢ n)) → not (nat_eq m n)
    ≡ true → m ≢ n
differs_by m n (inl x) e = absurd (not_both (not (nat_eq m n)) (ap not x.0) e)
differs_by m n (inr x) e = x.1

pub differs : (m n : ℕ) → not (nat_eq m n) ≡ true → m ≢ n
differs m n = differs_by m n (eqb_tells m n)

abbrev pub is_absent : ℕ → List ℕ → Bool
is_absent m [] = true
is_absent m (x ∷ xs) = not (nat_eq m x) && is_absent m xs

abbrev pub all_differ : List ℕ → Bool
all_differ [] = true
all_differ (x ∷ xs) = is_absent x xs && all_differ xs

pub absent : (m : ℕ) (xs : List ℕ) → is_absent m xs ≡ true → (z : ℕ) → Contains xs z → m ≢ z
absent m [] h z (k, l, e) = absurd (omega (arith, l))
absent m (x ∷ xs) h z (zero, l, e) = subst (λ y. m ≢ y) e (differs m x (first_of_both _ _ h))
absent m (x ∷ xs) h z (suc k, l, e) = absent m xs (second_of_both _ _ h) z (k, omega (arith, l), e)

pub no_line : {P : TraceLine → Type 0} → ((l : TraceLine) × Contains [] l × P l) → ⊥
no_line x = empty_has_nothing x.0 x.1

pub all_differ-so : (xs : List ℕ) → all_differ xs ≡ true → AllDiffer xs
all_differ-so [] h = tt
all_differ-so (x ∷ xs) h = (absent x xs (first_of_both _ _ h), all_differ-so xs (second_of_both _ _ h))
