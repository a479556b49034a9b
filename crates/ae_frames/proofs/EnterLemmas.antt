-- Facts on a call that was entered, from what was done to enter it.
use Rattle.std.proofs.Common.{◌≡◌, ◌∙◌, ℕ, nat_eq, if◌then◌else◌, true, List, [], ◌∷◌, ◌++◌, map, Option, None, refl, ap, sym, subst, drop}
use Rattle.std.specs.Prelude.{zip, filter_map, option_map}
use Rattle.ae_tree.specs.declared.tree.GroupNeed.{GroupNeed}
use Rattle.ae_tree.specs.Plain.{Code, Definition, Invocation}
use Rattle.ae_tree.specs.Shown.{definition}
use Rattle.ae_rules.specs.Calls.{Callee, group_in, givens}
use Rattle.ae_rules.specs.Instances.{param_names}
use Rattle.ae_semantics.specs.Values.{Val}
use Rattle.ae_semantics.specs.Places as meant
use Rattle.ae_semantics.specs.Places.{Group, State, other_name}
use Rattle.ae_semantics.specs.Calls.{Argument, Taker, takers, taken, groups_needed, group_given, given_away}
use Rattle.ae_values.specs.declared.env.Bound.{Bound}
use Rattle.ae_values.specs.Shown.{shown}
use Rattle.ae_values.specs.Binding.{bound_in}
use Rattle.ae_values.specs.Environments.{bound_under, locals_in, groups_in, running_binds, waiting_binds}
use Rattle.ae_values.specs.Shapes.{NameShape, OfLocal, shapes}
use Rattle.ae_calls.specs.declared.params.GroupsIn.{GroupsIn}
use Rattle.ae_calls.specs.Param.{new_in}
use Rattle.ae_reads.specs.Answers.{one_name}
use Rattle.ae_running.specs.declared.running.Running.{Running}
use Rattle.ae_frames.specs.declared.given.Arg.{Arg}
use Rattle.ae_frames.specs.declared.given.Parameter.{Parameter}
use Rattle.ae_frames.specs.declared.granted.Lent.{Lent}
use Rattle.ae_frames.specs.declared.entering.Entered.{Entered}
use Rattle.ae_frames.specs.Entries.{EnteredCall, entered_call, names_apart, all_differ, need_names, param_shape}
use Rattle.ae_frames.specs.Givens.{arguments_of, takers_of}
use Rattle.ae_frames.specs.Bounds.{shapes_by}
use Rattle.ae_frames.specs.Granting.{holder_by, all_got, all_lent, is_holder, group_in_list, with_placeholders}
use Rattle.ae_frames.specs.Granting.{groups_seen}
use Rattle.ae_frames.specs.Asking.{asked_in, AreSpared, locals_left, with_locals}
use Rattle.ae_frames.specs.Kept.{AsItWas, ComesBack, IsLocalLeft, returning}
use Rattle.ae_frames.specs.declared.given.Asked.{Asked}
use Rattle.ae_frames.specs.Shown.{backs_of, lents_of, got_shape}
use Rattle.ae_frames.specs.Entering.{IsEntered, waiting_state}
use Rattle.ae_frames.proofs.from_text.Basics.{functions_agree}
use Rattle.ae_frames.proofs.NameLemmas.{rest_differ}
use Rattle.ae_frames.proofs.NeedLemmas.{listed_is_needed}
use Rattle.ae_frames.proofs.NeedLists.{lents_in_order, shapes_in_order, holders_are_no_locals, placed_keeps_locals}
use Rattle.ae_frames.proofs.NeedLists.{placed_keeps_others}
use Rattle.ae_frames.proofs.SparedLemmas.{backs, locals_are_left}

-- a state by its parts
abbrev made_state : (ℕ → Option meant.Bound) → (ℕ → Option Group) → Option Val → State
made_state l g r = record { locals = l; groups = g; result = r }

same_parts : (l m : ℕ → Option meant.Bound) (g h : ℕ → Option Group) (r q : Option Val) → l ≡ m → g ≡ h → r ≡ q
    → made_state l g r ≡ made_state m h q
same_parts l m g h r q a b c = ap (λ x. made_state x g r) a ∙ ap (λ x. made_state m x r) b
    ∙ ap (λ x. made_state m h x) c

-- the state of what is bound so
abbrev pub state_bound : (ℕ → Option Bound) → Option Val → State
state_bound f r = made_state (locals_in f) (groups_in one_name f) r

-- parameters with their arguments have the shapes in which they are declared
shapes_of_params : (ts : List Parameter) (xs : List Arg)
    → shapes_by ts xs ≡ map param_shape (zip (takers_of ts) (arguments_of xs))
shapes_of_params [] xs = refl
shapes_of_params (t ∷ ts) [] = refl
shapes_of_params (t ∷ ts) (x ∷ xs) = ap (λ (zs : List (ℕ × NameShape)). (t.name, OfLocal t.slot.form) ∷ zs)
    (shapes_of_params ts xs)

-- the names of the needs differ
needs_differ : (m : Definition) → names_apart m ≡ true → all_differ (need_names m.needs) ≡ true
needs_differ m apart = rest_differ (param_names m) (need_names m.needs) apart

-- what is known of a call that was begun, where these are the caller's groups for the method's
pub record IsBegun (groups : ℕ → ℕ) (i : Invocation) (f : ℕ → Option Bound) (ns : List GroupNeed) (ts : List Parameter) (xs : List Arg) (x : Entered) (run : Running) : Type 0 where
  pub locals : locals_in (bound_under run.env) ≡ taken (takers_of ts) (arguments_of xs)
  pub seen_groups : groups_seen run.env ≡ group_in_list (all_got groups (groups_in one_name f) [] ns)
  pub shaped : shapes (running_binds run.env)
      ≡ shapes_by ts xs ++ map got_shape (all_got groups (groups_in one_name f) [] ns)
  pub back : backs_of x.left.waiting.back.items ≡ filter_map returning (zip (takers_of ts) (arguments_of xs))
  pub lent : lents_of x.left.waiting.lent.items ≡ all_lent groups (groups_in one_name f) [] ns
  pub waits : bound_in (drop x.left.waiting.base (waiting_binds run.env))
      ≡ with_placeholders (lents_of x.left.waiting.lent.items) f
  pub gone : x.left.gone.items ≡ filter_map given_away (zip (takers_of ts) (givens i))

-- the locals of the caller wait as they were
pub begun_keeps_locals : (groups : ℕ → ℕ) (f : ℕ → Option Bound) (ns : List GroupNeed) (lent : List Lent)
    (w : ℕ → Option Bound) → lents_of lent ≡ all_lent groups (groups_in one_name f) [] ns
    → w ≡ with_placeholders (lents_of lent) f → locals_in w ≡ locals_in f
begun_keeps_locals groups f ns lent w lent_is waits = ap locals_in waits ∙ placed_keeps_locals (lents_of lent) f
    (λ y has. holders_are_no_locals groups f [] ns y (subst (λ zs. is_holder zs y ≡ true) lent_is has))

-- what was begun was entered
begun_is_entered : (p : Code) (i : Invocation) (f : ℕ → Option Bound) (r : Option Val) (k : Callee)
    (ts : List Parameter) (xs : List Arg) (x : Entered) (run : Running) → names_apart k.method ≡ true
    → takers_of ts ≡ takers p k.method → run.result ≡ None → option_map shown x.left.result ≡ r
    → k.method ≡ definition x.method.now → k.number ≡ x.number
    → IsBegun (group_given (state_bound f r) k i) i f k.method.needs ts xs x run
    → IsEntered (entered_call p (state_bound f r) k (group_given (state_bound f r) k i) (arguments_of xs)) i
    (state_bound f r) x run
begun_is_entered p i f r k ts xs x run apart taken_is none kept method number b =
    let s : State = state_bound f r in
    let groups : ℕ → ℕ = group_given s k i in
    let ns : List GroupNeed = k.method.needs in
    let differ = needs_differ k.method apart in
    record {
      method = method;
      number = number;
      state = same_parts (taken (takers p k.method) (arguments_of xs)) (locals_in (bound_under run.env))
          (groups_needed groups s ns) (groups_in one_name (bound_under run.env)) None (option_map shown run.result)
          (sym (b.locals ∙ ap (λ zs. taken zs (arguments_of xs)) taken_is))
          (sym (b.seen_groups ∙ functions_agree (group_in_list (all_got groups s.groups [] ns)) (groups_needed
          groups s ns)
          (λ g. listed_is_needed groups s ns g differ)))
          (ap (option_map shown) (sym none));
      kept = record {
        back = b.back ∙ ap (λ zs. filter_map returning (zip zs (arguments_of xs))) taken_is;
        lent = b.lent ∙ lents_in_order groups s [] ns differ;
        gone = b.gone ∙ ap (λ zs. filter_map given_away (zip zs (givens i))) taken_is;
      };
      left = record {
        locals = λ y. AsItWas (ap (λ (l : ℕ → Option meant.Bound). l y) (begun_keeps_locals groups f ns
            x.left.waiting.lent.items (bound_in (drop x.left.waiting.base (waiting_binds run.env))) b.lent b.waits));
        groups = λ y other. ap (λ (h : ℕ → Option Bound). groups_in one_name h y) b.waits
            ∙ placed_keeps_others (lents_of x.left.waiting.lent.items) f y other;
        result = kept;
      };
      names = b.shaped
          ∙ ap (λ (zs : List (ℕ × NameShape)). zs ++ map got_shape (all_got groups s.groups [] ns))
          (shapes_of_params ts xs ∙ ap (λ zs. map param_shape (zip zs (arguments_of xs))) taken_is)
          ∙ ap (λ (zs : List (ℕ × NameShape)). map param_shape (zip (takers p k.method) (arguments_of xs)) ++ zs)
          (shapes_in_order groups s [] ns differ);
    }

-- the same, by the groups as the code finds them and by a list that is the method's needs
pub call_is_entered : (p : Code) (i : Invocation) (f : ℕ → Option Bound) (r : Option Val) (k : Callee) (new : GroupsIn)
    (ns : List GroupNeed) (ts : List Parameter) (xs : List Arg) (x : Entered) (run : Running)
    → names_apart k.method ≡ true → takers_of ts ≡ takers p k.method → run.result ≡ None
    → option_map shown x.left.result ≡ r → k.method ≡ definition x.method.now → k.number ≡ x.number
    → new_in new ≡ group_in k i.groups → ns ≡ k.method.needs
    → IsBegun (holder_by (groups_in one_name f) new) i f ns ts xs x run
    → IsEntered (entered_call p (state_bound f r) k (group_given (state_bound f r) k i) (arguments_of xs)) i
    (state_bound f r) x run
call_is_entered p i f r k new ns ts xs x run apart taken_is none kept method number new_is same b =
    let cs : ℕ → Option Group = groups_in one_name f in
    (begun_is_entered) p i f r k ts xs x run apart taken_is none kept method number
    (subst (λ zs. IsBegun (group_given (state_bound f r) k i) i f zs ts xs x run) same
    (subst (λ (h : ℕ → ℕ). IsBegun (λ g. other_name (h g) (cs (h g))) i f ns ts xs x run) new_is b))

-- ---- a caller that has lost what it does not keep

-- the groups that a method gets are the same whatever the locals are
needed_alike : (groups : ℕ → ℕ) (l : ℕ → Option meant.Bound) (s : State) (ns : List GroupNeed) (g : ℕ)
    → groups_needed groups (with_locals l s) ns g ≡ groups_needed groups s ns g
needed_alike groups l s [] g = refl
needed_alike groups l s (n ∷ ns) g =
    ap (λ (o : Option Group). if nat_eq n.group.name g then s.groups (groups g)
    else (if nat_eq (groups n.group.name) (groups g) then option_map (λ y. meant.As n.group.name) o else o))
    (needed_alike groups l s ns g)

-- so is the call that is entered
entry_alike : (p : Code) (l : ℕ → Option meant.Bound) (s : State) (k : Callee) (i : Invocation) (xs : List Argument)
    → entered_call p (with_locals l s) k (group_given (with_locals l s) k i) xs
    ≡ entered_call p s k (group_given s k i) xs
entry_alike p l s k i xs = ap made
    (functions_agree (groups_needed (group_given s k i) (with_locals l s) k.method.needs)
    (groups_needed (group_given s k i) s k.method.needs)
    (needed_alike (group_given s k i) l s k.method.needs))
  where
    made : (ℕ → Option Group) → EnteredCall
    made groups = record {
      callee = k;
      groups = group_given s k i;
      takers = takers p k.method;
      arguments = xs;
      state = record { locals = taken (takers p k.method) xs; groups = groups; result = None };
    }

-- what was entered after values were handed over was entered from the state before
pub entered_before : (p : Code) (i : Invocation) (k : Callee) (ts : List Parameter) (xs : List Asked) (args : List Arg)
    (s t : State) (e : Entered) (run : Running) → takers_of ts ≡ takers p k.method
    → AreSpared (takers_of ts) (givens i) xs → arguments_of args ≡ map (asked_in s) xs
    → t ≡ with_locals (locals_left xs s.locals) s
    → IsEntered (entered_call p t k (group_given t k i) (arguments_of args)) i t e run
    → (waiting_state e.left.waiting.base e.left.result run.env).locals ≡ t.locals
    → IsEntered (entered_call p s k (group_given s k i) (map (asked_in s) xs)) i s e run
entered_before p i k ts xs args s t e run taken_is spared given is h waits =
    let u : State = with_locals (locals_left xs s.locals) s in
    let was : IsEntered (entered_call p u k (group_given u k i) (map (asked_in s) xs)) i u e run =
    subst (λ (zs : List Argument). IsEntered (entered_call p u k (group_given u k i) zs) i u e run) given
    (subst (λ (v : State). IsEntered (entered_call p v k (group_given v k i) (arguments_of args)) i v e run) is h) in
    let now : IsEntered (entered_call p s k (group_given s k i) (map (asked_in s) xs)) i u e run =
    subst (λ (y : EnteredCall). IsEntered y i u e run)
    (entry_alike p (locals_left xs s.locals) s k i (map (asked_in s) xs)) was in
    record {
      method = now.method;
      number = now.number;
      state = now.state;
      kept = now.kept;
      left = record {
        locals = λ y. subst (λ (o : Option meant.Bound). IsLocalLeft (backs_of e.left.waiting.back.items) e.left.gone.items y
            (s.locals y) o)
            (sym (ap (λ (l : ℕ → Option meant.Bound). l y) (waits ∙ ap (λ (v : State). v.locals) is)))
            (subst (λ (bs : List ComesBack). IsLocalLeft bs e.left.gone.items y (s.locals y) (locals_left xs s.locals y))
            (sym now.kept.back)
            (subst (λ (gs : List ℕ). IsLocalLeft (backs (takers p k.method) xs s) gs y (s.locals y)
            (locals_left xs s.locals y)) (sym now.kept.gone)
            (locals_are_left s (takers p k.method) (givens i) xs s.locals
            (subst (λ (us : List Taker). AreSpared us (givens i) xs) taken_is spared) y)));
        groups = now.left.groups;
        result = now.left.result;
      };
      names = now.names;
    }
