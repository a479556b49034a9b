-- Instances that conflict and part at two statements of a block are ordered.
use Rattle.ae_rules.specs.Edges.{Uses}
use Rattle.std.proofs.Common.{◌≡◌, inl, inr, refl, ap, ◌∙◌, subst, ℕ, zero, suc, nat_eq, Bool, true, false}
use Rattle.std.proofs.Common.{if◌then◌else◌, List, [], ◌∷◌, map, Option, None, Some}
use Rattle.std.specs.Prelude.{zip, slice_get}
use Rattle.std.proofs.lemmas.Bool.{eqb-true}
use Rattle.ae_tree.specs.declared.tree.Need.{Need}
use Rattle.ae_tree.specs.declared.tree.Need.TheVariants as need_of
use Rattle.ae_tree.specs.declared.tree.GroupNeed.{GroupNeed}
use Rattle.ae_rules.specs.declared.uses.Resource.{Resource}
use Rattle.ae_rules.specs.declared.uses.Resource.TheVariants as resource
use Rattle.ae_rules.specs.declared.uses.Mode.{Mode}
use Rattle.ae_rules.specs.declared.uses.Mode.TheVariants as mode
use Rattle.ae_tree.specs.declared.form.Perm.{Perm}
use Rattle.ae_tree.specs.declared.form.Perm.TheVariants as perm
use Rattle.ae_tree.specs.declared.form.Form.{Form}
use Rattle.ae_tree.specs.declared.form.Form.TheVariants as f
use Rattle.ae_tree.specs.Plain.{Expression, Invocation, Lines, End, Next, Definition, Code, Action}
use Rattle.ae_rules.specs.declared.held.GroupPerm.TheVariants as group
use Rattle.ae_rules.specs.Verdict.{Verdict, Holds, Broken, given, judged}
use Rattle.ae_rules.specs.Context.{Context}
use Rattle.ae_rules.specs.Into.{Source, Null, From, source}
use Rattle.ae_rules.specs.Forms.{is_unique, is_object}
use Rattle.ae_rules.specs.Calls.{Callee, ParamSlot, group_in, slots, givens}
use Rattle.ae_rules.specs.Groups.{wanted_need}
use Rattle.ae_rules.specs.Statements.{judge_statement}
use Rattle.ae_rules.specs.Judges.{start, need_for, permission_needed, knows}
use Rattle.ae_rules.specs.Uses.{statement_at, nothing, same_resource, use_alone, read_use, write_use, ◌∪◌, of_each}
use Rattle.ae_rules.specs.Uses.{of_judged}
use Rattle.ae_rules.specs.Uses.{of_found, is_seen, outside, all_but, walk_uses, given_uses, argument_uses, need_uses}
use Rattle.ae_rules.specs.Uses.{callee_uses, statement_uses, lines_use, contexts, block_uses}
use Rattle.ae_rules.specs.EdgeLaws.{IsAtMost, group_allows, is_allowed}
use Rattle.ae_rules.specs.Instances.{renamed, source_outside, param_outside, param_names, params_given, group_names}
use Rattle.ae_rules.specs.Instances.{callee_outside, body_outside, lock_outside}
use Rattle.ae_rules.proofs.SeenLemmas.{Inside, one_if, same_is, of_two}
use Rattle.ae_rules.proofs.LessLemmas.{Less, less_itself, less_then, less_nothing, less_left, less_right, less_both}
use Rattle.ae_rules.proofs.LessLemmas.{less_one, less_renamed, less_found, less_each, less_zip, suits, Fit}
use Rattle.ae_rules.proofs.LessLemmas.{fit_nothing}
use Rattle.ae_rules.proofs.TruthLemmas.{left_by_test, shown_behind_test}
use Rattle.std.proofs.lemmas.Option.{same_Some}

-- ---- blocks

abbrev no_contexts : List Context
no_contexts = []

-- a statement of a block uses at most what the block uses
pub block_less : (p : Code) (m : Definition) (b : Lines) (c : Context) (i : ℕ)
    → Less (block_uses p m b c i) (lines_use p m b c)
block_less p m End c i = less_nothing nothing
block_less p m (Next at a rest) c zero = less_left (statement_uses p m a c) (statement_uses p m a c)
    (of_judged (judge_statement p m at a c) (lines_use p m rest)) (less_itself (statement_uses p m a c))
block_less p m (Next at a rest) c (suc i) = later (λ d. block_less p m rest d i) (judge_statement p m at a c)
  where
    none : (o : Option Action) → Less (of_found o (λ s. of_found (slice_get no_contexts i) (statement_uses p m s)))
        nothing
    none None = less_nothing nothing
    none (Some s) = less_nothing nothing

    later : ((d : Context) → Less (block_uses p m rest d i) (lines_use p m rest d)) → (v : Verdict Context)
        → Less (of_found (statement_at rest i)
        (λ s. of_found (slice_get (judged v [] (contexts p m rest)) i) (statement_uses p m s)))
        (statement_uses p m a c ∪ of_judged v (lines_use p m rest))
    later there (Holds d) = less_right _ (statement_uses p m a c) (lines_use p m rest d) (there d)
    later there (Broken rule spot) = less_right _ (statement_uses p m a c) nothing (none (statement_at rest i))

-- ---- a call

lent_less : (p : Code) (c : Context) (q : Perm) (k : _) (o : Option Mode) (s : Source)
    → Less (source_outside (f.Object q k) o s) (given_uses p c q s)
lent_less p c q k o Null = less_nothing nothing
lent_less p c perm.Unique k o (From path) = less_left _ (write_use path.root.name) (walk_uses p c path)
    (less_renamed o mode.Write (resource.Local path.root.name) refl)
lent_less p c perm.Immutable k o (From path) = less_left _ (read_use path.root.name) (walk_uses p c path)
    (less_found o _ (read_use path.root.name) (λ _ _. less_itself (read_use path.root.name)))
lent_less p c perm.Lent k o (From path) = less_left _ (read_use path.root.name) (walk_uses p c path)
    (less_found o _ (read_use path.root.name) (λ _ _. less_itself (read_use path.root.name)))
lent_less p c (perm.Shared g) k o (From path) = less_left _ (read_use path.root.name) (walk_uses p c path)
    (less_found o _ (read_use path.root.name) (λ _ _. less_itself (read_use path.root.name)))

source_less : (p : Code) (c : Context) (q : Perm) (k : _) (o : Option Mode) (s : Option Source)
    → Less (of_found s (source_outside (f.Object q k) o)) (of_found s (given_uses p c q))
source_less p c q k o None = less_nothing nothing
source_less p c q k o (Some s) = lent_less p c q k o s

param_less : (p : Code) (c : Context) (form : Form) (o : Option Mode) (e : Expression)
    → Less (param_outside form o e) (argument_uses p c form e)
param_less p c f.Int o e = less_nothing _
param_less p c f.Bool o e = less_nothing _
param_less p c (f.Object q k) o e = source_less p c q k o (source e)

-- the need that allows a use of a group at a method's start
abbrev meets_need : Need → Mode → Bool
meets_need n m = group_allows (permission_needed n) m

need_less : (n : Need) (g : ℕ) (m : Mode) → meets_need n m ≡ true
    → Less (use_alone m (resource.Group g)) (need_uses (n, g))
need_less need_of.Exclusive g m e = less_one m mode.GroupWhole (resource.Group g) (λ _. refl)
need_less need_of.Protected g m e = less_one m mode.GroupWhole (resource.Group g) (λ _. refl)
need_less need_of.Shared g mode.GroupShared e = less_one mode.GroupShared mode.GroupShared (resource.Group g) (λ s. s)
need_less need_of.Shared g mode.GroupWhole e = absurd (cc)
need_less need_of.Shared g mode.Read e = absurd (cc)
need_less need_of.Shared g mode.Write e = absurd (cc)

need_found : (new : ℕ → ℕ) (ns : List GroupNeed) (g : ℕ) (n : GroupNeed) (m : Mode) → need_for ns g ≡ Some n
    → meets_need n.need m ≡ true
    → Less (use_alone m (resource.Group (new g))) (of_each need_uses (map (wanted_need new) ns))
need_found new [] g n m e h = absurd (cc)
need_found new (x ∷ ns) g n m e h = by_name (λ q. need_found new ns g n m q h) (nat_eq x.group.name g) refl e
  where
    rest : Uses
    rest = of_each need_uses (map (wanted_need new) ns)

    here : x ≡ n → x.group.name ≡ g → Less (use_alone m (resource.Group (new g))) (need_uses (wanted_need new x))
    here q w = subst (λ (y : ℕ). Less (use_alone m (resource.Group (new y))) (need_uses (wanted_need new x))) w
        (need_less x.need (new x.group.name) m (ap (λ (y : GroupNeed). meets_need y.need m) q ∙ h))

    by_name : (need_for ns g ≡ Some n → Less (use_alone m (resource.Group (new g))) rest) → (b : Bool)
        → nat_eq x.group.name g ≡ b → (if b then Some x else need_for ns g) ≡ Some n
        → Less (use_alone m (resource.Group (new g))) (need_uses (wanted_need new x) ∪ rest)
    by_name later true q w = less_left _ (need_uses (wanted_need new x)) rest
        (here (same_Some x n w) (eqb-true x.group.name g q))
    by_name later false q w = less_right _ (need_uses (wanted_need new x)) rest (later w)

start_need : (b : Bool) (o : Option GroupNeed) (m : Mode)
    → given (if b then Some (given o group.None (λ (n : GroupNeed). permission_needed n.need)) else None) false
    (λ q. group_allows q m) ≡ true
    → (n : GroupNeed) × (o ≡ Some n) × (meets_need n.need m ≡ true)
start_need false o m e = absurd (cc)
start_need true None m e = absurd (cc)
start_need true (Some n) m e = (n, refl, e)

-- a use of a group that a method knows at its start, at the call
group_less : (p : Code) (m : Definition) (new : ℕ → ℕ) (g : ℕ) (o l : Option Mode) → IsAtMost o l
    → ((n : Mode) → l ≡ Some n → is_allowed (start p m) (resource.Group g) n ≡ true)
    → Less (renamed o (resource.Group (new g))) (of_each need_uses (map (wanted_need new) m.needs))
group_less p m new g None l h k = less_nothing _
group_less p m new g (Some u) None h k = absurd h
group_less p m new g (Some u) (Some n) h k =
    let r = start_need (knows p m g) (need_for m.needs g) n (k n refl) in
    less_then _ (use_alone n (resource.Group (new g))) _ (less_one u n (resource.Group (new g)) h)
    (need_found new m.needs g r.0 n r.1 r.2)

shown_group : (p : Code) (m : Definition) (new : ℕ → ℕ) (g : ℕ) (b : Bool) (o l : Option Mode) → IsAtMost o l
    → (b ≡ true → (n : Mode) → l ≡ Some n → is_allowed (start p m) (resource.Group g) n ≡ true)
    → Less (renamed (if b then o else None) (resource.Group (new g)))
    (of_each need_uses (map (wanted_need new) m.needs))
shown_group p m new g false o l h k = less_nothing _
shown_group p m new g true o l h k = group_less p m new g o l h (k refl)

-- the uses of the body, where they are at most those that the method is judged with
abbrev pub body_uses : Code → Definition → Uses
body_uses p m = lines_use p m m.body (start p m)

pub callee_less : (p : Code) (c : Context) (i : Invocation) (u : Uses) (k : Callee) → Less u (body_uses p k.method)
    → Inside (start p k.method) (body_uses p k.method)
    → Less (body_outside p i u k) (callee_uses p c i k)
callee_less p c i u k h w =
    let new : ℕ → ℕ = group_in k i.groups in
    let seen : Uses = outside (start p k.method) u in
    let args : Uses = of_each (λ (x : ParamSlot × Expression). argument_uses p c x.0.form x.1)
    (zip (slots p new k.method) (givens i)) in
    let needs : Uses = of_each need_uses (map (wanted_need new) k.method.needs) in
    less_both _ _ (args ∪ needs)
    (less_left _ args needs (less_zip
    (λ (x : ℕ × (ParamSlot × Expression)). param_outside x.1.0.form (seen (resource.Local x.0)) x.1.1)
    (λ (x : ParamSlot × Expression). argument_uses p c x.0.form x.1)
    (λ x. param_less p c x.1.0.form (seen (resource.Local x.0)) x.1.1) (param_names k.method)
    (zip (slots p new k.method) (givens i))))
    (less_right _ args needs (less_each (λ g. renamed (seen (resource.Group g)) (resource.Group (new g))) needs
    (λ g. shown_group p k.method new g (is_seen (start p k.method) (resource.Group g)) (u (resource.Group g))
    (body_uses p k.method (resource.Group g)) (h.at (resource.Group g)) (λ s n e. w (resource.Group g) n e s))
    (group_names k)))

-- ---- modes of their kind

fit_one : (m : Mode) (r : Resource) → suits r m ≡ true → Fit (use_alone m r)
fit_one m r h s n e = let q = one_if m n (same_resource r s) e in subst (λ (k : Mode). suits s k ≡ true) q.1
    (subst (λ (x : Resource). suits x m ≡ true) (same_is r s q.0) h)

fit_both : (u v : Uses) → Fit u → Fit v → Fit (u ∪ v)
fit_both u v f g r n e = elim (of_two (u r) (v r) n e) [ inl x ↦ f r n x | inr x ↦ g r n x ]

fit_each : {A : Type 0} (u : A → Uses) → ((x : A) → Fit (u x)) → (xs : List A) → Fit (of_each u xs)
fit_each u h [] = fit_nothing
fit_each u h (x ∷ xs) = fit_both (u x) (of_each u xs) (h x) (fit_each u h xs)

pub fit_found : {A : Type 0} (o : Option A) (u : A → Uses) → ((x : A) → o ≡ Some x → Fit (u x)) → Fit (of_found o u)
fit_found None u h = fit_nothing
fit_found (Some x) u h = h x refl

pub fit_outside : (c : Context) (u : Uses) → Fit u → Fit (outside c u)
fit_outside c u f r n e = f r n (shown_behind_test (is_seen c r) (u r) n e)

fit_all_but : (s : Resource) (u : Uses) → Fit u → Fit (all_but s u)
fit_all_but s u f r n e = f r n (left_by_test (same_resource s r) (u r) n e)

pub fit_lock : (g : ℕ) (u : Uses) → Fit u → Fit (lock_outside g u)
fit_lock g u f = fit_both _ (all_but (resource.Group g) u)
    (fit_found (u (resource.Group g)) _ (λ m _. fit_one mode.GroupShared (resource.Group g) refl))
    (fit_all_but (resource.Group g) u f)

fit_lent : (form : Form) (u : Uses) (x : ℕ) (s : Source) → Fit u → Fit (source_outside form (u (resource.Local x)) s)
fit_lent form u x Null f = fit_nothing
fit_lent form u x (From path) f = either (is_unique form)
  where
    either : (b : Bool) → Fit (if b then renamed (u (resource.Local x)) (resource.Local path.root.name) else of_found
        (u (resource.Local x)) (λ m. read_use path.root.name))
    either true = fit_found (u (resource.Local x)) _
        (λ m e. fit_one m (resource.Local path.root.name) (f (resource.Local x) m e))
    either false = fit_found (u (resource.Local x)) _ (λ m _. fit_one mode.Read (resource.Local path.root.name) refl)

fit_param : (form : Form) (u : Uses) (x : ℕ) (e : Expression) → Fit u
    → Fit (param_outside form (u (resource.Local x)) e)
fit_param form u x e f = either (is_object form)
  where
    either : (b : Bool) → Fit (if b then of_found (source e) (source_outside form (u (resource.Local x))) else nothing)
    either true = fit_found (source e) _ (λ s _. fit_lent form u x s f)
    either false = fit_nothing

fit_callee : (p : Code) (i : Invocation) (u : Uses) (k : Callee) → Fit u → Fit (callee_outside p i u k)
fit_callee p i u k f =
    fit_both _ _ (fit_each _ (λ (x : ℕ × (ParamSlot × Expression)). fit_param x.1.0.form u x.0 x.1.1 f)
    (params_given p i k))
    (fit_each _ (λ g. fit_found (u (resource.Group g)) _
    (λ m e. fit_one m (resource.Group (group_in k i.groups g)) (f (resource.Group g) m e))) (group_names k))

pub fit_body : (p : Code) (i : Invocation) (u : Uses) (k : Callee) → Fit u → Fit (body_outside p i u k)
fit_body p i u k f = fit_callee p i (outside (start p k.method) u) k (fit_outside (start p k.method) u f)
