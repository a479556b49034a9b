-- Where a method ends what it left of its groups may come back, and its parameters have the values that come back.
use Rattle.std.proofs.Common.{◌≡◌, ◌≢◌, refl, sym, ap, ◌∙◌, subst, ℕ, nat_eq, Bool, true, false, if◌then◌else◌}
use Rattle.std.proofs.Common.{List, [], not, ◌∷◌, map, Option, None, Some}
use Rattle.std.specs.Prelude.{All, ⊤}
use Rattle.std.proofs.lemmas.Bool.{eqb-true}
use Rattle.ae_text.specs.declared.refusal.Spot.{Spot}
use Rattle.ae_tree.specs.declared.tree.Param.{Param}
use Rattle.ae_tree.specs.declared.tree.Need.{Need}
use Rattle.ae_tree.specs.declared.tree.Need.TheVariants as need_of
use Rattle.ae_tree.specs.declared.tree.GroupNeed.{GroupNeed}
use Rattle.ae_tree.specs.Names.{io}
use Rattle.ae_tree.specs.FreeThis.{IsNotThis}
use Rattle.ae_tree.specs.Plain.{Code, Definition}
use Rattle.ae_rules.specs.declared.held.GroupPerm.{GroupPerm}
use Rattle.ae_rules.specs.declared.held.GroupPerm.TheVariants as group
use Rattle.ae_rules.specs.Verdict.{Holds, ◌>>=◌, ◌>>◌, fine, each, in_turn, if_there, given}
use Rattle.ae_rules.specs.Groups.{Groups as GroupsKnown}
use Rattle.ae_rules.specs.Groups.{same_group_perm, wanted_need, need_met}
use Rattle.ae_rules.specs.Table.{no_names, most_groups, declares_groups, result_holds, me_holds}
use Rattle.ae_rules.specs.Table.{param_holds, need_holds}
use Rattle.ae_rules.specs.Lookups.{Names, method_at}
use Rattle.ae_rules.specs.Context.{Context}
use Rattle.ae_rules.specs.Judges.{permission_needed, need_for, knows, groups_at_start}
use Rattle.ae_rules.specs.Calls.{group_in}
use Rattle.ae_rules.specs.Laws.{StatementsKeep, EverySlotIsGiven}
use Rattle.ae_semantics.specs.Places.{CellName, Group, Here, Away, As, State, name_of, group_of}
use Rattle.ae_semantics.specs.Places.{members}
use Rattle.ae_semantics.specs.Values.{Store}
use Rattle.ae_semantics.specs.Calls.{group_given, CallFrame}
use Rattle.ae_soundness.specs.Fits.{AreWhole, FitsShown, FitsGroup, FitsContext, NoneAway, has_members}
use Rattle.ae_soundness.specs.Returns.{is_here, MayComeBack, EachMayComeBack, EachIsThere, MethodsGiveBack}
use Rattle.ae_soundness.proofs.BackLemmas.{members_may_come_back}
use Rattle.ae_soundness.proofs.NeedLemmas.{IsHeldAs, NeedsAreKnown, needs_are_known, method_is_held}
use Rattle.ae_soundness.proofs.CallGroupLemmas.{Permits, need_permits}
use Rattle.ae_soundness.proofs.OutcomeLemmas.{Comes}
use Rattle.ae_soundness.proofs.CallLemmas.{Entered, JudgedCall, judged_call, method_judged, HasGroups}
use Rattle.ae_soundness.proofs.CallLemmas.{has_groups, call_comes}
use Rattle.ae_soundness.proofs.LeaveLemmas.{WasEntered, was_entered}
use Rattle.ae_soundness.proofs.KeptLemmas.{takers_are}
use Rattle.ae_soundness.proofs.EndLemmas.{EndKeeps, end_keeps, parameters_there}
use Rattle.ae_soundness.proofs.from_rules.PathLemmas.{first_holds}
use Rattle.ae_soundness.proofs.from_rules.BelowLemmas.{found_has}
use Rattle.ae_soundness.proofs.from_text.Basics.{number_is_itself}

-- ---- the needs

-- there is a need for the group of each of these
abbrev EachNeeded : List GroupNeed → List GroupNeed → Type 0
EachNeeded all [] = Unit {0}
EachNeeded all (n ∷ ns) = ((m : GroupNeed) × (need_for all n.group.name ≡ Some m)) × EachNeeded all ns

one_need_more : (x : GroupNeed) (all ns : List GroupNeed) → EachNeeded all ns → EachNeeded (x ∷ all) ns
one_need_more x all [] h = tt
one_need_more x all (n ∷ ns) h = (by_test (nat_eq x.group.name n.group.name), one_need_more x all ns h.1)
  where
    by_test : (b : Bool) → (m : GroupNeed) × ((if b then Some x else need_for all n.group.name) ≡ Some m)
    by_test true = (x, refl)
    by_test false = h.0

each_needed : (ns : List GroupNeed) → EachNeeded ns ns
each_needed [] = tt
each_needed (n ∷ ns) = (
  by_test (nat_eq n.group.name n.group.name) (number_is_itself n.group.name),
  one_need_more n ns ns (each_needed ns),
)
  where
    by_test : (b : Bool) → b ≡ true → (m : GroupNeed) × ((if b then Some n else need_for ns n.group.name) ≡ Some m)
    by_test true e = (n, refl)
    by_test false e = absurd (cc e)

-- ---- one group

-- what there is, and is not away, are members
members_there : (p : Code) (q : GroupPerm) (o : Option Group) → FitsShown p q o
    → ((cell : CellName) → o ≢ Some (Away cell)) → (st : Store) × (o ≡ Some (Here st)) × AreWhole p st
members_there p q None h a = absurd h
members_there p q (Some (Here st)) h a = (st, refl, h)
members_there p q (Some (Away cell)) h a = absurd (a cell refl)
members_there p q (Some (As g)) h a = absurd h

-- no need asks for nothing
asks_something : (n : Need) → same_group_perm group.None (permission_needed n) ≡ false
asks_something need_of.Exclusive = refl
asks_something need_of.Shared = refl
asks_something need_of.Protected = refl

-- a needed group fits its need where the method ends
end_shown : (p : Code) (m : Definition) (d : Context) (t : State) (g : ℕ) (n : GroupNeed) → EndKeeps p m d
    → FitsContext p d t → NeedsAreKnown p m → has_members g ≡ true → need_for m.needs g ≡ Some n
    → FitsShown p (permission_needed n.need) (group_of t g)
end_shown p m d t g n k z known named e =
    let is : groups_at_start p m g ≡ Some (permission_needed n.need) = there (knows p m g) (known g n e)
    ∙ ap (λ (o : Option GroupNeed). Some (given o group.None (λ (n : GroupNeed). permission_needed n.need))) e in
    z.group g (permission_needed n.need) named (ap (λ (gs : GroupsKnown). gs g) k.groups ∙ is) (asks_something n.need)
  where
    there : (b : Bool) → b ≡ true
        → (if b then Some (given (need_for m.needs g) group.None (λ (n : GroupNeed). permission_needed n.need))
        else None)
        ≡ Some (given (need_for m.needs g) group.None (λ (n : GroupNeed). permission_needed n.need))
    there true i = refl
    there false i = absurd (cc i)

-- ---- all groups

-- all that is known of the caller's state and the method's last
record Given (p : Code) (m : Definition) (s t : State) (d : Context) (new to : ℕ → ℕ) (gs : GroupsKnown) : Type 0 where
  keeps : EndKeeps p m d
  fits : FitsContext p d t
  known : NeedsAreKnown p m
  caller : (g : ℕ) (q : GroupPerm) → has_members g ≡ true → gs (new g) ≡ Some q → FitsGroup p q (s.groups (to g))
  log : s.groups (to io) ≡ None
  before : NoneAway s
  after : NoneAway t

one_may : (p : Code) (m : Definition) (s t : State) (d : Context) (new to : ℕ → ℕ) (gs : GroupsKnown) (at : Spot)
    (n k : GroupNeed) (u : ⊤) → Given p m s t d new to gs → need_met gs at (wanted_need new n) ≡ Holds u
    → need_for m.needs n.group.name ≡ Some k
    → MayComeBack p (s.groups (to n.group.name)) (t.groups n.group.name)
one_may p m s t d new to gs at n k u r h e = by_test (nat_eq io n.group.name) refl
  where
    g : ℕ
    g = n.group.name

    by_test : (b : Bool) → nat_eq io g ≡ b → MayComeBack p (s.groups (to g)) (t.groups g)
    by_test true i = subst (λ (x : ℕ). MayComeBack p (s.groups (to x)) (t.groups x)) (eqb-true io g i)
        (subst (λ (o : Option Group). MayComeBack p (s.groups (to io)) o) (sym r.fits.log) r.log)
    by_test false i =
        let named : has_members g ≡ true = ap not i in
        let a : Permits p (gs (new g)) n.need = need_permits p gs at u (new g) n.need h in
        let shown : FitsShown p (permission_needed n.need) (s.groups (to g))
        = a.2 (s.groups (to g)) (r.caller g a.0 named a.1) in
        let before = members_there p (permission_needed n.need) (s.groups (to g)) shown (r.before (to g)) in
        let after = members_there p (permission_needed k.need) (group_of t g)
        (end_shown p m d t g k r.keeps r.fits r.known named e) (r.after (name_of t g)) in
        members_may_come_back p (s.groups (to g)) t g
        (record { store = after.0; is = ap members after.1; whole = after.2 }) (ap is_here before.1)

each_may : (p : Code) (m : Definition) (s t : State) (d : Context) (new to : ℕ → ℕ) (gs : GroupsKnown) (at : Spot)
    (ns : List GroupNeed) (u : ⊤) → Given p m s t d new to gs
    → each (need_met gs at) (map (wanted_need new) ns) ≡ Holds u → EachNeeded m.needs ns
    → EachMayComeBack p to s t ns
each_may p m s t d new to gs at [] u r h k = tt
each_may p m s t d new to gs at (n ∷ ns) u r h k =
    let a = first_holds (need_met gs at (wanted_need new n)) (λ _. each (need_met gs at) (map (wanted_need new) ns)) u h
    in (
      (one_may) p m s t d new to gs at n k.0.0 a.0 r a.1 k.0.1,
      (each_may) p m s t d new to gs at ns u r a.2 k.1,
    )

-- ---- the method's end

-- no name that the method has is `this`
abbrev NamesOther : Definition → Type 0
NamesOther m = IsNotThis m.name × All IsNotThis m.groups × All (λ (x : Param). IsNotThis x.name) m.params

-- A method gives back what comes back where it may end.
pub methods_give_back : EverySlotIsGiven → StatementsKeep → MethodsGiveBack
methods_give_back every keep p w free table c s t here i k d y last z before e h n ends fits after =
    subst (λ (f : CallFrame). EachIsThere p t f.takers × EachMayComeBack p f.groups s t k.method.needs) r.is (
      subst (EachIsThere p t) (sym (takers_are p k.method))
          (parameters_there keep p k.method names.0 names.0 after_params.0 last t after_params.1 other ends fits),
      (each_may) p k.method s t last (group_in k i.groups) (group_given s k i) c.group i.method.at k.method.needs j.unit
          (record {
            keeps = end_keeps keep p k.method last ends;
            fits = fits;
            known = (needs_are_known p k.method held).0;
            caller = λ g q m e. z.group (group_in k i.groups g) q (groups.named g m) e;
            log = groups.log;
            before = before;
            after = after;
          }) j.needs (each_needed k.method.needs),
    )
  where
    entered : Entered p k y
    entered = subst (Comes (Entered p k)) n (call_comes every p w table c s here i k d z e h)

    r : WasEntered p s here i k y
    r = was_entered p s here i k y n entered.callee

    own : (x : ℕ) × (method_at p x ≡ Some k.method)
    own = method_judged p c i.on i.method k e

    held : IsHeldAs p k.method
    held = method_is_held p w table own.0 k.method own.1

    j : JudgedCall p c i k
    j = judged_call p c i k d h

    groups : HasGroups s i k
    groups = has_groups p w table c s i k z e j entered.groups held

    names : (x : Names) × (declares_groups most_groups k.method.groups held.outer ≡ Holds x)
        × ((result_holds p x k.method.result >> if_there k.method.me (me_holds x)
        >> in_turn (param_holds p x) k.method.params x
        >>= λ _. (in_turn (need_holds x) k.method.needs no_names >> fine)) ≡ Holds held.unit)
    names = first_holds (declares_groups most_groups k.method.groups held.outer) _ held.unit held.holds

    after_params : (x : Names) × (in_turn (param_holds p names.0) k.method.params names.0 ≡ Holds x)
    after_params =
        let b = first_holds (result_holds p names.0 k.method.result) _ held.unit names.2 in
        let d = first_holds (if_there k.method.me (me_holds names.0)) _ held.unit b.2 in
        let e = first_holds (in_turn (param_holds p names.0) k.method.params names.0) _ held.unit d.2 in (e.0, e.1)

    other : All (λ (x : Param). IsNotThis x.name) k.method.params
    other = (found_has NamesOther p.methods own.0 k.method free.methods own.1).2
