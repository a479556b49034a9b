-- Where a called method begins, groups that stand under one name may not be reached.
use Rattle.std.proofs.Common.{◌≡◌, refl, sym, ap, ◌∙◌, subst, ℕ, nat_eq, Bool, true, false, ◌&&◌, ◌||◌, not}
use Rattle.std.proofs.Common.{if◌then◌else◌, List, [], ◌∷◌, map, zip, length, Option, None, Some}
use Rattle.std.specs.Prelude.{option_map, ⊤}
use Rattle.std.specs.List.{list_any}
use Rattle.std.proofs.lemmas.Bool.{eqb-true, not-true}
use Rattle.std.proofs.lemmas.Option.{same_Some}
use Rattle.ae_text.specs.declared.refusal.Spot.{Spot}
use Rattle.ae_text.specs.declared.refusal.Rule.TheVariants as rule
use Rattle.ae_tree.specs.declared.tree.Need.{Need}
use Rattle.ae_tree.specs.declared.tree.Need.TheVariants as need_of
use Rattle.ae_tree.specs.declared.tree.GroupNeed.{GroupNeed}
use Rattle.ae_tree.specs.Names.{main}
use Rattle.ae_tree.specs.Plain.{Definition, Code, Invocation}
use Rattle.ae_rules.specs.declared.held.GroupPerm.{GroupPerm}
use Rattle.ae_rules.specs.declared.held.GroupPerm.TheVariants as group
use Rattle.ae_rules.specs.Verdict.{Holds, require, each, in_turn, given}
use Rattle.ae_rules.specs.Lookups.{top_number, method_at}
use Rattle.ae_rules.specs.Types.{groups_fit}
use Rattle.ae_rules.specs.Groups.{Groups as GroupsKnown}
use Rattle.ae_rules.specs.Groups.{Wanted, known, same_group_perm, group_is, opens, clash, any_clash, are_shared}
use Rattle.ae_rules.specs.Groups.{need_met, wanted_need, needs_met}
use Rattle.ae_rules.specs.Context.{Context}
use Rattle.ae_rules.specs.Calls.{Callee, group_in, Called, slots, givens, to_slot, no_roots}
use Rattle.ae_rules.specs.Calls.{judge_callee_with}
use Rattle.ae_rules.specs.Judges.{permission_needed, need_for, knows, groups_at_start}
use Rattle.ae_rules.specs.Laws.{EverySlotIsGiven}
use Rattle.ae_semantics.specs.Contexts.{shuts_out}
use Rattle.ae_semantics.specs.Places.{Group, Here, Away, As, State, other_name, name_of}
use Rattle.ae_semantics.specs.Calls.{groups_needed, group_given, CallFrame, enter}
use Rattle.ae_semantics.specs.Means.{Start, start_at}
use Rattle.ae_soundness.proofs.BackLemmas.{is_no_name}
use Rattle.ae_soundness.proofs.CallGroupLemmas.{IsMet, found_is_met, there_is_needed}
use Rattle.ae_soundness.proofs.CallLemmas.{Entered, call_comes, judged_call, has_groups, method_judged}
use Rattle.ae_soundness.proofs.FieldLemmas.{given_some}
use Rattle.ae_soundness.proofs.LeaveLemmas.{WasEntered, was_entered}
use Rattle.ae_soundness.proofs.NeedLemmas.{method_is_held}
use Rattle.ae_changes.specs.Bodies.{need_mode}
use Rattle.ae_changes.specs.Apart.{NamesApart, CallsBeginApart, BeginningsAreApart}
use Rattle.ae_changes.proofs.from_rules.PathLemmas.{first_holds}
use Rattle.ae_changes.proofs.from_rules.SeenLemmas.{required}
use Rattle.ae_changes.proofs.from_text.Basics.{number_is_itself}
use Rattle.ae_changes.proofs.BackLemmas.{needed_as}
use Rattle.ae_changes.proofs.CallLemmas.{entered_is}
use Rattle.ae_changes.proofs.NeedLemmas.{Lends, needed_no_name}

-- a need for which others may have the group too
abbrev IsShared : GroupNeed → Type 0
IsShared n = shuts_out (Some (need_mode n.need)) ≡ false

either_false : (a b : Bool) → (a || b) ≡ false → (a ≡ false) × (b ≡ false)
either_false true b e = absurd (cc e)
either_false false b e = (refl, e)

-- ---- two needs for one group

both_shared : (m n : Need) → are_shared m n ≡ true
    → (shuts_out (Some (need_mode m)) ≡ false) × (shuts_out (Some (need_mode n)) ≡ false)
both_shared need_of.Exclusive n e = absurd (cc e)
both_shared need_of.Protected n e = absurd (cc e)
both_shared need_of.Shared need_of.Exclusive e = absurd (cc e)
both_shared need_of.Shared need_of.Protected e = absurd (cc e)
both_shared need_of.Shared need_of.Shared e = (refl, refl)

-- needs that do not clash, for one group, are both shared
no_clash : (new : ℕ → ℕ) (m n : GroupNeed) → clash (wanted_need new m) (wanted_need new n) ≡ false
    → new m.group.name ≡ new n.group.name → IsShared m × IsShared n
no_clash new m n e same = both_shared m.need n.need (by_tests (nat_eq (new m.group.name) (new n.group.name))
    (are_shared m.need n.need)
    (ap (nat_eq (new m.group.name)) (sym same) ∙ number_is_itself (new m.group.name)) e)
  where
    by_tests : (a b : Bool) → a ≡ true → (a && not b) ≡ false → b ≡ true
    by_tests true true i j = refl
    by_tests true false i j = absurd (cc j)
    by_tests false b i j = absurd (cc i)

later_clash : (new : ℕ → ℕ) (w : Wanted) (ns : List GroupNeed) (h : ℕ) (n : GroupNeed)
    → list_any (clash w) (map (wanted_need new) ns) ≡ false → need_for ns h ≡ Some n
    → clash w (wanted_need new n) ≡ false
later_clash new w [] h n e i = absurd (cc i)
later_clash new w (x ∷ ns) h n e i =
    let both = either_false (clash w (wanted_need new x)) (list_any (clash w) (map (wanted_need new) ns)) e in
    by_test (nat_eq x.group.name h) i both.0 (λ j. later_clash new w ns h n both.1 j)
  where
    by_test : (b : Bool) → (if b then Some x else need_for ns h) ≡ Some n → clash w (wanted_need new x) ≡ false
        → (need_for ns h ≡ Some n → clash w (wanted_need new n) ≡ false) → clash w (wanted_need new n) ≡ false
    by_test true j k later = subst (λ (y : GroupNeed). clash w (wanted_need new y) ≡ false) (same_Some x n j) k
    by_test false j k later = later j

-- of a method's needs for two groups that are one of its caller's both are shared
one_for_both : (new : ℕ → ℕ) (ns : List GroupNeed) (g h : ℕ) (a b : GroupNeed)
    → any_clash (map (wanted_need new) ns) ≡ false → need_for ns g ≡ Some a → need_for ns h ≡ Some b
    → nat_eq h g ≡ false → new a.group.name ≡ new b.group.name → IsShared a × IsShared b
one_for_both new [] g h a b e i j d same = absurd (cc i)
one_for_both new (x ∷ ns) g h a b e i j d same =
    let both = either_false (list_any (clash (wanted_need new x)) (map (wanted_need new) ns))
    (any_clash (map (wanted_need new) ns)) e in
    by_tests (nat_eq x.group.name g) refl (nat_eq x.group.name h) refl i j both.0
    (λ k l. one_for_both new ns g h a b both.1 k l d same)
  where
    by_tests : (v : Bool) → nat_eq x.group.name g ≡ v → (w : Bool) → nat_eq x.group.name h ≡ w
        → (if v then Some x else need_for ns g) ≡ Some a → (if w then Some x else need_for ns h) ≡ Some b
        → list_any (clash (wanted_need new x)) (map (wanted_need new) ns) ≡ false
        → (need_for ns g ≡ Some a → need_for ns h ≡ Some b → IsShared a × IsShared b) → IsShared a × IsShared b
    by_tests true p true q k l c later =
        let one : h ≡ g = sym (eqb-true x.group.name h q) ∙ eqb-true x.group.name g p in
        let is : nat_eq h g ≡ true = ap (nat_eq h) (sym one) ∙ number_is_itself h in absurd (cc (is, d))
    by_tests true p false q k l c later =
        let it : x ≡ a = same_Some x a k in
        no_clash new a b
        (subst (λ (y : GroupNeed). clash (wanted_need new y) (wanted_need new b) ≡ false) it
        (later_clash new (wanted_need new x) ns h b c l)) same
    by_tests false p true q k l c later =
        let it : x ≡ b = same_Some x b l in
        let r = no_clash new b a
        (subst (λ (y : GroupNeed). clash (wanted_need new y) (wanted_need new a) ≡ false) it
        (later_clash new (wanted_need new x) ns g a c k)) (sym same) in (r.1, r.0)
    by_tests false p false q k l c later = later k l

-- ---- two groups under one name

-- of two groups of the caller that stand under one name neither may be reached
both_closed : (c : Context) (s : State) (x y : ℕ) → NamesApart c s → name_of s x ≡ name_of s y
    → nat_eq x y ≡ false → (opens c.group x ≡ false) × (opens c.group y ≡ false)
both_closed c s x y apart same d = by_groups (s.groups x) refl (s.groups y) refl same
  where
    closed : ℕ → Type 0
    closed g = opens c.group g ≡ false

    alone : x ≡ y → (opens c.group x ≡ false) × (opens c.group y ≡ false)
    alone e = let is : nat_eq x y ≡ true = ap (nat_eq x) (sym e) ∙ number_is_itself x in absurd (cc (is, d))

    right : (r : ℕ) → s.groups y ≡ Some (As r) → x ≡ r → (opens c.group x ≡ false) × (opens c.group y ≡ false)
    right r q e = (subst closed (sym e) (apart y r q).1, (apart y r q).0)

    left : (r : ℕ) → s.groups x ≡ Some (As r) → r ≡ y → (opens c.group x ≡ false) × (opens c.group y ≡ false)
    left r p e = ((apart x r p).0, subst closed e (apart x r p).1)

    by_groups : (o : Option Group) → s.groups x ≡ o → (q : Option Group) → s.groups y ≡ q
        → other_name x o ≡ other_name y q → (opens c.group x ≡ false) × (opens c.group y ≡ false)
    by_groups (Some (As r)) p (Some (As t)) q e = ((apart x r p).0, (apart y t q).0)
    by_groups (Some (As r)) p None q e = left r p e
    by_groups (Some (As r)) p (Some (Here st)) q e = left r p e
    by_groups (Some (As r)) p (Some (Away cell)) q e = left r p e
    by_groups None p (Some (As t)) q e = right t q e
    by_groups (Some (Here st)) p (Some (As t)) q e = right t q e
    by_groups (Some (Away cell)) p (Some (As t)) q e = right t q e
    by_groups None p None q e = alone e
    by_groups None p (Some (Here st)) q e = alone e
    by_groups None p (Some (Away cell)) q e = alone e
    by_groups (Some (Here st)) p None q e = alone e
    by_groups (Some (Here st)) p (Some (Here u)) q e = alone e
    by_groups (Some (Here st)) p (Some (Away cell)) q e = alone e
    by_groups (Some (Away cell)) p None q e = alone e
    by_groups (Some (Away cell)) p (Some (Here st)) q e = alone e
    by_groups (Some (Away cell)) p (Some (Away other)) q e = alone e

-- a need of a group that may not be reached is shared
closed_shared : (gs : GroupsKnown) (at : Spot) (u : ⊤) (x : ℕ) (n : Need) → need_met gs at (n, x) ≡ Holds u
    → opens gs x ≡ false → shuts_out (Some (need_mode n)) ≡ false
closed_shared gs at u x need_of.Shared h e = refl
closed_shared gs at u x need_of.Exclusive h e =
    let is : group_is group.Exclusive gs x ≡ true = required (group_is group.Exclusive gs x) rule.NotExclusive at u h in
    let no = either_false (group_is group.Exclusive gs x) (group_is group.Protected gs x) e in absurd (cc (is, no.0))
closed_shared gs at u x need_of.Protected h e =
    let is : opens gs x ≡ true = required (opens gs x) rule.NeedsGroup at u h in absurd (cc (is, e))

-- ---- where the method begins

shared_closed : (n : Need) → shuts_out (Some (need_mode n)) ≡ false
    → (same_group_perm group.Exclusive (permission_needed n) || same_group_perm group.Protected (permission_needed n))
    ≡ false
shared_closed need_of.Shared h = refl
shared_closed need_of.Exclusive h = absurd (cc h)
shared_closed need_of.Protected h = absurd (cc h)

-- a group that the method shares may not be reached where it begins
start_closed : (p : Code) (m : Definition) (g : ℕ) (n : GroupNeed) → need_for m.needs g ≡ Some n → IsShared n
    → opens (groups_at_start p m) g ≡ false
start_closed p m g n e h = by_known (knows p m g)
    (ap (λ (o : Option GroupNeed). given o group.None (λ (n : GroupNeed). permission_needed n.need)) e)
  where
    perm : GroupPerm
    perm = given (need_for m.needs g) group.None (λ (n : GroupNeed). permission_needed n.need)

    by_known : (b : Bool) → perm ≡ permission_needed n.need
        → (given (if b then Some perm else None) false (same_group_perm group.Exclusive)
        || given (if b then Some perm else None) false (same_group_perm group.Protected)) ≡ false
    by_known true i = ap (λ (q : GroupPerm). same_group_perm group.Exclusive q || same_group_perm group.Protected q) i
        ∙ shared_closed n.need h
    by_known false i = refl

-- the other name under which a group stands is that of another need
record StandsAs (ns : List GroupNeed) (g h : ℕ) : Type 0 where
  need : GroupNeed
  is : need_for ns h ≡ Some need
  differ : nat_eq h g ≡ false

stands_as : (to : ℕ → ℕ) (s : State) (ns : List GroupNeed) (g h : ℕ) → is_no_name (s.groups (to g)) ≡ true
    → groups_needed to s ns g ≡ Some (As h) → StandsAs ns g h
stands_as to s [] g h n e = absurd (cc e)
stands_as to s (m ∷ ns) g h n e = by_tests (nat_eq m.group.name g) refl (nat_eq (to m.group.name) (to g)) e
    (λ i. stands_as to s ns g h n i)
  where
    named : (o : Option Group) → option_map (λ (x : Group). As m.group.name) o ≡ Some (As h) → m.group.name ≡ h
    named None i = absurd (cc i)
    named (Some x) i = cc i

    first : m.group.name ≡ h → need_for (m ∷ ns) h ≡ Some m
    first i = ap (λ (b : Bool). if b then Some m else need_for ns h)
        (ap (nat_eq m.group.name) (sym i) ∙ number_is_itself m.group.name)

    further : StandsAs ns g h → StandsAs (m ∷ ns) g h
    further r = by_name (nat_eq m.group.name h) refl
      where
        by_name : (b : Bool) → nat_eq m.group.name h ≡ b → StandsAs (m ∷ ns) g h
        by_name true i = record {
          need = m;
          is = ap (λ (b : Bool). if b then Some m else need_for ns h) i;
          differ = r.differ;
        }
        by_name false i = record {
          need = r.need;
          is = ap (λ (b : Bool). if b then Some m else need_for ns h) i ∙ r.is;
          differ = r.differ;
        }

    by_tests : (b : Bool) → nat_eq m.group.name g ≡ b → (d : Bool)
        → (if b then s.groups (to g) else (if d
        then option_map (λ (x : Group). As m.group.name) (groups_needed to s ns g) else groups_needed to s ns g))
        ≡ Some (As h)
        → (groups_needed to s ns g ≡ Some (As h) → StandsAs ns g h) → StandsAs (m ∷ ns) g h
    by_tests true q d i later = absurd (cc (sym n ∙ ap is_no_name i))
    by_tests false q true i later =
        let same : m.group.name ≡ h = named (groups_needed to s ns g) i in
        record { need = m; is = first same; differ = subst (λ (x : ℕ). nat_eq x g ≡ false) same q }
    by_tests false q false i later = further (later i)

-- no two needs of a judged call clash
needs_apart : (p : Code) (c : Context) (i : Invocation) (k : Callee) (d : Called) → judge_callee_with p c i k ≡ Holds d
    → any_clash (map (wanted_need (group_in k i.groups)) k.method.needs) ≡ false
needs_apart p c i k d h =
    let ns : List Wanted = map (wanted_need (group_in k i.groups)) k.method.needs in
    let a = first_holds (groups_fit (known c.group) (length k.method.groups) i.method.at i.groups) _ d h in
    let b = first_holds (require (nat_eq (length i.args) (length k.method.params)) rule.ArgumentCount i.method.at) _ d
    a.2 in
    let r = first_holds (in_turn (to_slot p c) (zip (slots p (group_in k i.groups) k.method) (givens i)) no_roots) _ d
    b.2 in
    let n = first_holds (needs_met c.group i.method.at ns) _ d r.2 in
    let e = first_holds (require (not (any_clash ns)) rule.GroupTwice i.method.at)
    (λ _. each (need_met c.group i.method.at) ns) n.0 n.1 in
    not-true (any_clash ns) (required (not (any_clash ns)) rule.GroupTwice i.method.at e.0 e.1)

-- the two groups of the method are shared
lent_apart : (p : Code) (c : Context) (s : State) (i : Invocation) (k : Callee) (g r : ℕ) → Lends p c s i k
    → any_clash (map (wanted_need (group_in k i.groups)) k.method.needs) ≡ false → NamesApart c s
    → groups_needed (group_given s k i) s k.method.needs g ≡ Some (As r)
    → (opens (groups_at_start p k.method) g ≡ false) × (opens (groups_at_start p k.method) r ≡ false)
lent_apart p c s i k g r l free apart q =
    let a = there_is_needed to s needs g (As r) q in
    let no : is_no_name (s.groups (to g)) ≡ true = needed_no_name p c s i k g a.0 l a.1 in
    let b : StandsAs needs g r = stands_as to s needs g r no q in
    let both = by_test a.0 b.need a.1 b.is b.differ (needed_as to s needs g r no q) (nat_eq (new g) (new r)) refl in
    (start_closed p k.method g a.0 a.1 both.0, start_closed p k.method r b.need b.is both.1)
  where
    new : ℕ → ℕ
    new = group_in k i.groups

    to : ℕ → ℕ
    to = group_given s k i

    needs : List GroupNeed
    needs = k.method.needs

    met : (y : ℕ) (x : GroupNeed) → need_for needs y ≡ Some x → IsMet c.group i.method.at new y x
    met y x e = found_is_met c.group i.method.at new y needs x l.judged.unit l.judged.needs e

    shared : (y : ℕ) (x : GroupNeed) → need_for needs y ≡ Some x → opens c.group (new y) ≡ false → IsShared x
    shared y x e h =
        let m : IsMet c.group i.method.at new y x = met y x e in
        closed_shared c.group i.method.at m.unit (new x.group.name) x.need m.met
        (subst (λ (z : ℕ). opens c.group (new z) ≡ false) (sym m.name) h)

    by_test : (x y : GroupNeed) → need_for needs g ≡ Some x → need_for needs r ≡ Some y → nat_eq r g ≡ false
        → to g ≡ to r → (v : Bool) → nat_eq (new g) (new r) ≡ v → IsShared x × IsShared y
    by_test x y e f d same true v = one_for_both new needs g r x y free e f d
        (ap new (met g x e).name ∙ eqb-true (new g) (new r) v ∙ sym (ap new (met r y f).name))
    by_test x y e f d same false v =
        let closed = both_closed c s (new g) (new r) apart same v in
        (shared g x e closed.0, shared r y f closed.1)

-- ---- laws

-- Where a called method begins names stand apart.
pub calls_begin_apart : EverySlotIsGiven → CallsBeginApart
calls_begin_apart every p w table c s here i k d f z apart e h n g r q =
    lent_apart p c s i k g r lends (needs_apart p c i k d h) apart
    (subst (λ (y : CallFrame). y.state.groups g ≡ Some (As r)) (sym was.is) q)
  where
    own : (x : ℕ) × (method_at p x ≡ Some k.method)
    own = method_judged p c i.on i.method k e

    entered : Entered p k f
    entered = entered_is p k (enter p here i s) f (call_comes every p w table c s here i k d z e h) n

    was : WasEntered p s here i k f
    was = was_entered p s here i k f n entered.callee

    lends : Lends p c s i k
    lends = record {
      fits = z;
      judged = judged_call p c i k d h;
      groups = has_groups p w table c s i k z e (judged_call p c i k d h) entered.groups
          (method_is_held p w table own.0 k.method own.1);
    }

-- Where a program begins there is no group.
pub beginnings_are_apart : BeginningsAreApart
beginnings_are_apart p ints x e g r q =
    let a = given_some (top_number p main) (start_at p ints) x e in
    let b = given_some (method_at p a.0) _ x a.2 in
    let none : x.state.groups g ≡ None = subst (λ (y : Start). y.state.groups g ≡ None) (same_Some _ x b.2) refl in
    absurd (cc (none, q))
