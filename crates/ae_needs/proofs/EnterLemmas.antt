-- From states that agree on what a judged call uses it is entered with the same method, values and groups.
use Rattle.std.proofs.Common.{◌≡◌, refl, sym, ap, ◌∙◌, subst, ℕ, nat_eq, Bool, true, false, if◌then◌else◌, List, []}
use Rattle.std.proofs.Common.{◌∷◌, map, zip, Option, None, Some}
use mathlib.Core.Path.{fun_ext}
use Rattle.std.specs.Prelude.{is_some, option_map}
use Rattle.std.proofs.lemmas.Bool.{eqb-true}
use Rattle.ae_tree.specs.declared.tree.GroupNeed.{GroupNeed}
use Rattle.ae_tree.specs.declared.tree.Need.{Need}
use Rattle.ae_tree.specs.declared.tree.Need.TheVariants as need_of
use Rattle.ae_tree.specs.declared.tree.Path.{Path}
use Rattle.ae_tree.specs.Plain.{Code, Read, Invocation}
use Rattle.ae_tree.specs.WellShaped.{WellShaped}
use Rattle.ae_rules.specs.declared.uses.Resource.{Resource}
use Rattle.ae_rules.specs.declared.uses.Resource.TheVariants as resource
use Rattle.ae_rules.specs.declared.uses.Mode.TheVariants as mode
use Rattle.ae_rules.specs.Edges.{Uses}
use Rattle.ae_rules.specs.Verdict.{Holds, in_turn}
use Rattle.ae_rules.specs.Verdict as rules
use Rattle.ae_rules.specs.Table.{TableHolds}
use Rattle.ae_rules.specs.Groups.{wanted_need}
use Rattle.ae_rules.specs.Context.{Context}
use Rattle.ae_rules.specs.Laws.{EverySlotIsGiven}
use Rattle.ae_rules.specs.Calls.{Callee, top_callee, callee_of, group_in, param_slot, slots, if_some, givens}
use Rattle.ae_rules.specs.Calls.{no_roots, to_slot, Called, judge_callee, judge_callee_with}
use Rattle.ae_rules.specs.Judges.{start}
use Rattle.ae_rules.specs.Uses.{of_each, need_uses, callee_uses}
use Rattle.ae_semantics.specs.Places.{Outcome, Fine, ◌>>=◌, there, Group, As, State, PlaceFound, walk_to, name_of}
use Rattle.ae_semantics.specs.Runs.{Where}
use Rattle.ae_semantics.specs.Calls.{Argument, each_argument, called_method, takers, taken, groups_needed, CallFrame}
use Rattle.ae_semantics.specs.Calls.{frame, group_given, enter}
use Rattle.ae_soundness.specs.Fits.{FitsContext}
use Rattle.ae_soundness.specs.Laws.{CallsAreEntered, IsEnteredAs}
use Rattle.ae_needs.specs.Agree.{Agree}
use Rattle.ae_needs.proofs.AgreeLemmas.{AllIn, in_left, in_right, in_group}
use Rattle.ae_needs.proofs.AlikeLemmas.{Alike, from_same}
use Rattle.ae_needs.proofs.ValueLemmas.{Known}
use Rattle.ae_needs.proofs.ArgumentLemmas.{EachFromOn, slot_uses, ArgumentsAlike, arguments_alike, receiver_same}
use Rattle.ae_needs.proofs.from_rules.ShapeLemmas.{callee_receiver}
use Rattle.ae_needs.proofs.from_soundness.CallLemmas.{JudgedCall, judged_call}

-- ---- groups

-- the caller's group of each need is in the set
abbrev pub NeedsIn : (Resource → Bool) → (ℕ → ℕ) → List GroupNeed → Type 0
NeedsIn on new [] = Unit {0}
NeedsIn on new (n ∷ ns) = (on (resource.Group (new n.group.name)) ≡ true) × NeedsIn on new ns

need_in : (on : Resource → Bool) (q : Need) (g : ℕ) → AllIn on (need_uses (q, g)) → on (resource.Group g) ≡ true
need_in on need_of.Exclusive g i = in_group on mode.GroupWhole g i
need_in on need_of.Shared g i = in_group on mode.GroupShared g i
need_in on need_of.Protected g i = in_group on mode.GroupWhole g i

needs_in : (on : Resource → Bool) (new : ℕ → ℕ) (ns : List GroupNeed)
    → AllIn on (of_each need_uses (map (wanted_need new) ns)) → NeedsIn on new ns
needs_in on new [] i = tt
needs_in on new (n ∷ ns) i =
    let rest : Uses = of_each need_uses (map (wanted_need new) ns) in (
      need_in on n.need (new n.group.name) (in_left on (need_uses (wanted_need new n)) rest i),
      needs_in on new ns (in_right on (need_uses (wanted_need new n)) rest i),
    )

module _ (on : Resource → Bool) (new : ℕ → ℕ) (s t : State) (a : Agree on s t) where
  -- the caller's name for a group
  abbrev named : State → ℕ → ℕ
  named u g = name_of u (new g)

  one_name : (g : ℕ) → on (resource.Group (new g)) ≡ true → named s g ≡ named t g
  one_name g i = a.names (new g) i

  step_of : Bool → Bool → ℕ → Option Group → Option Group → Option Group
  step_of b d n mine rest = if b then mine else (if d then option_map (λ x. As n) rest else rest)

  no_step : (d : Bool) (n : ℕ) → (if d then option_map (λ (x : Group). As n) None else None) ≡ None
  no_step true n = refl
  no_step false n = refl

  -- what is needed is one of the needs
  needed_in : (u : State) (ns : List GroupNeed) → NeedsIn on new ns → (g : ℕ) (x : Group)
      → groups_needed (named u) u ns g ≡ Some x → on (resource.Group (new g)) ≡ true
  needed_in u [] i g x e = absurd (cc e)
  needed_in u (n ∷ ns) i g x e = by_test (λ y j. needed_in u ns i.1 g y j) (nat_eq n.group.name g) refl e
    where
      Rest : Type 0
      Rest = (y : Group) → groups_needed (named u) u ns g ≡ Some y → on (resource.Group (new g)) ≡ true

      by_name : Rest → (d : Bool) (o : Option Group) → groups_needed (named u) u ns g ≡ o
          → (if d then option_map (λ (y : Group). As n.group.name) o else o) ≡ Some x
          → on (resource.Group (new g)) ≡ true
      by_name rest d None j k = absurd (cc (sym (no_step d n.group.name), k))
      by_name rest d (Some y) j k = rest y j

      by_test : Rest → (b : Bool) → nat_eq n.group.name g ≡ b
          → (if b then u.groups (named u g) else (if nat_eq (named u n.group.name) (named u g)
          then option_map (λ (y : Group). As n.group.name) (groups_needed (named u) u ns g)
          else groups_needed (named u) u ns g)) ≡ Some x
          → on (resource.Group (new g)) ≡ true
      by_test rest true j k = subst (λ (h : ℕ). on (resource.Group (new h)) ≡ true) (eqb-true n.group.name g j) i.0
      by_test rest false j k = by_name rest (nat_eq (named u n.group.name) (named u g)) (groups_needed (named u) u ns g)
          refl k

  -- the method has the same of each group
  pub needed_same : (ns : List GroupNeed) → NeedsIn on new ns → (g : ℕ)
      → groups_needed (named s) s ns g ≡ groups_needed (named t) t ns g
  needed_same [] i g = refl
  needed_same (n ∷ ns) i g = by_test (needed_same ns i.1 g) (nat_eq n.group.name g) refl
    where
      by_rest : (o : Option Group) → groups_needed (named s) s ns g ≡ o
          → (if nat_eq (named s n.group.name) (named s g) then option_map (λ (y : Group). As n.group.name) o else o)
          ≡ (if nat_eq (named t n.group.name) (named t g) then option_map (λ (y : Group). As n.group.name) o else o)
      by_rest None j = no_step (nat_eq (named s n.group.name) (named s g)) n.group.name
          ∙ sym (no_step (nat_eq (named t n.group.name) (named t g)) n.group.name)
      by_rest (Some y) j =
          ap (λ (h : ℕ). if nat_eq h (named s g) then option_map (λ (y : Group). As n.group.name) (Some y) else Some y)
          (one_name n.group.name i.0)
          ∙ ap (λ (h : ℕ). if nat_eq (named t n.group.name) h
          then option_map (λ (y : Group). As n.group.name) (Some y) else Some y)
          (one_name g (needed_in s ns i.1 g y j))

      by_test : groups_needed (named s) s ns g ≡ groups_needed (named t) t ns g → (b : Bool)
          → nat_eq n.group.name g ≡ b
          → (if b then s.groups (named s g) else (if nat_eq (named s n.group.name) (named s g)
          then option_map (λ (y : Group). As n.group.name) (groups_needed (named s) s ns g)
          else groups_needed (named s) s ns g))
          ≡ (if b then t.groups (named t g) else (if nat_eq (named t n.group.name) (named t g)
          then option_map (λ (y : Group). As n.group.name) (groups_needed (named t) t ns g)
          else groups_needed (named t) t ns g))
      by_test rest true j = a.groups (new g)
          (subst (λ (h : ℕ). on (resource.Group (new h)) ≡ true) (eqb-true n.group.name g j) i.0)
      by_test rest false j = by_rest (groups_needed (named s) s ns g) refl
          ∙ ap (λ (o : Option Group). if nat_eq (named t n.group.name) (named t g)
          then option_map (λ (y : Group). As n.group.name) o else o) rest

-- ---- calls

-- a judged call from two states that agree on what it uses
pub record CalledBoth (on : Resource → Bool) (p : Code) (c : Context) (s t : State) (i : Invocation) (k : Callee)
    (d : Called) : Type 0 where
  pub shaped : WellShaped p
  pub table : TableHolds p
  pub callee : judge_callee p c i.on i.method ≡ Holds k
  pub judged : judge_callee_with p c i k ≡ Holds d
  pub known : Known on p c s t
  pub uses : AllIn on (callee_uses p c i k)

-- the laws by which calls are entered
pub record CallLaws : Type 0 where
  pub entered : CallsAreEntered
  pub slots : EverySlotIsGiven

-- Two frames of one method with the same arguments.
pub record FramesAlike (on : Resource → Bool) (p : Code) (here : Where) (s t : State) (i : Invocation) (k : Callee)
    (x y : CallFrame) : Type 0 where
  pub arguments : List Argument
  pub first : x ≡ frame p here s k (group_given s k i) arguments
  pub second : y ≡ frame p here t k (group_given t k i) arguments
  pub stand : EachFromOn on arguments
  pub fits : FitsContext p (start p k.method) x.state
  pub needs : NeedsIn on (group_in k i.groups) k.method.needs

called_same : CallLaws → (on : Resource → Bool) (p : Code) (c : Context) (s t : State) (i : Invocation) (k : Callee)
    (d : Called) → CalledBoth on p c s t i k d
    → AllIn on (of_each (slot_uses p c) (zip (slots p (group_in k i.groups) k.method) (givens i)))
    → called_method p s i ≡ called_method p t i
called_same laws on p c s t i k d h l = by_receiver i.on refl
  where
    new : ℕ → ℕ
    new = group_in k i.groups

    j : JudgedCall p c i k
    j = judged_call p c i k d h.judged

    goes : Option Path → State → Outcome Callee
    goes o u = rules.given o (there (top_callee p i.method.name))
        (λ path. walk_to p u path >>= λ x. there (callee_of p x.form i.method.name))

    by_receiver : (o : Option Path) → i.on ≡ o → goes o s ≡ goes o t
    by_receiver None e = refl
    by_receiver (Some path) e =
        ap (λ (r : Outcome PlaceFound). r >>= λ x. there (callee_of p x.form i.method.name))
        (receiver_same on p c s t h.known new k.method k.method.me (map (param_slot new) k.method.params) path i.args
        no_roots j.roots (callee_receiver p h.shaped c i.on i.method k h.callee ∙ ap (λ (y : Option Path). is_some y) e)
        (subst (λ (y : Option Path). in_turn (to_slot p c)
        (zip (slots p new k.method) (if_some (option_map Read y) i.args)) no_roots ≡ Holds j.roots) e j.arguments)
        (subst (λ (y : Option Path). AllIn on (of_each (slot_uses p c)
        (zip (slots p new k.method) (if_some (option_map Read y) i.args)))) e l))

-- A judged call is entered alike.
pub enter_alike : CallLaws → (on : Resource → Bool) (p : Code) (c : Context) (s t : State) (here : Where)
    (i : Invocation) (k : Callee) (d : Called) → CalledBoth on p c s t i k d
    → Alike (FramesAlike on p here s t i k) (enter p here i s) (enter p here i t)
enter_alike laws on p c s t here i k d h =
    from_same R (called_method p s i) (called_method p t i)
    (λ y. each_argument p s (givens i) >>= λ xs. Fine (frame p here s y (group_given s y i) xs))
    (λ y. each_argument p t (givens i) >>= λ xs. Fine (frame p here t y (group_given t y i) xs))
    (called_same laws on p c s t i k d h given_uses)
    (λ y e. from_same R (each_argument p s (givens i)) (each_argument p t (givens i))
    (λ xs. Fine (frame p here s y (group_given s y i) xs)) (λ xs. Fine (frame p here t y (group_given t y i) xs))
    arguments.same (λ xs j. entered_so y xs e j))
  where
    R : CallFrame → CallFrame → Type 0
    R = FramesAlike on p here s t i k

    new : ℕ → ℕ
    new = group_in k i.groups

    rest : Uses
    rest = of_each need_uses (map (wanted_need new) k.method.needs)

    given_uses : AllIn on (of_each (slot_uses p c) (zip (slots p new k.method) (givens i)))
    given_uses = in_left on (of_each (slot_uses p c) (zip (slots p new k.method) (givens i))) rest h.uses

    needs : NeedsIn on new k.method.needs
    needs = needs_in on new k.method.needs
        (in_right on (of_each (slot_uses p c) (zip (slots p new k.method) (givens i))) rest h.uses)

    j : JudgedCall p c i k
    j = judged_call p c i k d h.judged

    arguments : ArgumentsAlike on p s t (givens i)
    arguments = arguments_alike on p c s t h.known (slots p new k.method) (givens i) no_roots j.roots
        (laws.slots p h.shaped c i k d h.callee h.judged new) j.arguments given_uses

    law : IsEnteredAs p k (enter p here i s)
    law = laws.entered p h.shaped h.table c s here i k d h.known.fits h.callee h.judged

    entered_so : (y : Callee) (xs : List Argument) → called_method p s i ≡ Fine y
        → each_argument p s (givens i) ≡ Fine xs
        → R (frame p here s y (group_given s y i) xs) (frame p here t y (group_given t y i) xs)
    entered_so y xs e l =
        let is : enter p here i s ≡ Fine (frame p here s y (group_given s y i) xs) =
        ap (λ (o : Outcome Callee). o >>= λ y. each_argument p s (givens i)
        >>= λ xs. Fine (frame p here s y (group_given s y i) xs)) e
        ∙ ap (λ (o : Outcome (List Argument)). o >>= λ xs. Fine (frame p here s y (group_given s y i) xs)) l in
        let r : IsEnteredAs p k (Fine (frame p here s y (group_given s y i) xs)) = subst (IsEnteredAs p k) is law in
        record {
          arguments = xs;
          first = ap (λ (z : Callee). frame p here s z (group_given s z i) xs) r.0;
          second = ap (λ (z : Callee). frame p here t z (group_given t z i) xs) r.0;
          stand = arguments.stand xs l;
          fits = r.2;
          needs = needs;
        }

-- A method begins with the same state.
pub one_beginning : (on : Resource → Bool) (p : Code) (here : Where) (s t : State) (i : Invocation) (k : Callee)
    (xs : List Argument) → Agree on s t → NeedsIn on (group_in k i.groups) k.method.needs
    → (frame p here s k (group_given s k i) xs).state ≡ (frame p here t k (group_given t k i) xs).state
one_beginning on p here s t i k xs a n =
    ap (λ (gs : ℕ → Option Group). record { locals = taken (takers p k.method) xs; groups = gs; result = None })
    (fun_ext (λ g. needed_same on (group_in k i.groups) s t a k.method.needs n g))
