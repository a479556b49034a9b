-- Facts on the parameters of a method.
use Rattle.std.proofs.Common.{◌≡◌, ◌∙◌, ℕ, ◌+◌, ◌<◌, ◌≤◌, List, [], ◌∷◌, ◌++◌, map, Option, None, Some, refl, ap, sym}
use Rattle.std.proofs.Common.{append_assoc, take, length, get_or, subst, true}
use Rattle.std.proofs.lemmas.List.{map-append, take_more, take_all}
use Rattle.std.specs.Prelude.{zip, option_map}
use Rattle.ae_tree.specs.declared.tree.Me.{Me}
use Rattle.ae_tree.specs.declared.tree.Param.{Param}
use Rattle.ae_tree.specs.declared.tree.GroupNeed.{GroupNeed}
use Rattle.ae_tree.specs.Names.{this}
use Rattle.ae_tree.specs.Plain.{Code, Definition}
use Rattle.ae_rules.specs.Calls.{if_some, ParamSlot, me_slot, param_slot}
use Rattle.ae_rules.specs.Instances.{param_names}
use Rattle.ae_semantics.specs.Calls.{Taker, takers}
use Rattle.ae_calls.specs.Param.{slot_of}
use Rattle.ae_frames.specs.declared.given.Parameter.{Parameter}
use Rattle.ae_frames.specs.Givens.{me_taker, param_taker, taker_of, takers_of, names_bound_by}
use Rattle.ae_frames.specs.Entries.{names_apart, all_differ, need_names}

-- parameters that are declared, each with its slot
params_taken : (xs : List Param)
    → zip (map (λ (x : Param). x.name.name) xs) (map (param_slot (λ g. g)) xs) ≡ map param_taker xs
params_taken [] = refl
params_taken (x ∷ xs) = ap (λ (ts : List Taker). param_taker x ∷ ts) (params_taken xs)

-- the receiver goes before the parameters
pub all_taken : (p : Code) (m : Definition) → takers p m ≡ me_taker p m ++ map param_taker m.params
all_taken p m = by_me m.me
  where
    by_me : (me : Option Me) → zip (if_some (option_map (λ (x : Me). this) me) (map (λ (x : Param). x.name.name)
        m.params))
        (if_some (option_map (me_slot p (λ g. g) m) me) (map (param_slot (λ g. g)) m.params))
        ≡ zip (if_some (option_map (λ (x : Me). this) me) []) (if_some (option_map (me_slot p (λ g. g) m) me) [])
        ++ map param_taker m.params
    by_me None = params_taken m.params
    by_me (Some me) = ap (λ (ts : List Taker). (this, me_slot p (λ g. g) m me) ∷ ts) (params_taken m.params)

-- the receiver is taken
pub me_is_taken : (p : Code) (m : Definition) (me : Me) (new : ℕ → ℕ) (slot : ParamSlot) (ts us : List Parameter)
    (t : Parameter) → m.me ≡ Some me → new ≡ (λ g. g) → slot ≡ me_slot p new m me → ts ≡ us ++ t ∷ [] → us ≡ []
    → taker_of t ≡ (this, slot) → takers_of ts ≡ me_taker p m
me_is_taken p m me new slot ts us t there same at more none is = ap takers_of more
    ∙ ap (λ (zs : List Parameter). takers_of (zs ++ t ∷ [])) none ∙ ap (λ (x : Taker). x ∷ []) is
    ∙ ap (λ (x : ParamSlot). (this, x) ∷ []) (at ∙ ap (λ (h : ℕ → ℕ). me_slot p h m me) same)
    ∙ ap (λ (o : Option Me). zip (if_some (option_map (λ (x : Me). this) o) [])
    (if_some (option_map (me_slot p (λ g. g) m) o) [])) (sym there)

-- one more parameter is taken
pub taken_one_more : (before : List Taker) (ts us : List Parameter) (t : Parameter) (ps : List Param) (i : ℕ) (q :
    Param)
    (new : ℕ → ℕ) → i < length ps → takers_of ts ≡ before ++ map param_taker (take i ps) → us ≡ ts ++ t ∷ []
    → t.name ≡ q.name.name → slot_of t.slot ≡ param_slot new q → q ≡ get_or ps i q → new ≡ (λ g. g)
    → takers_of us ≡ before ++ map param_taker (take (i + 1) ps)
taken_one_more before ts us t ps i q new below so more named slotted at same =
    let one : taker_of t ≡ param_taker (get_or ps i q) =
    ap (λ (n : ℕ). (n, slot_of t.slot)) named
    ∙ ap (λ (s : ParamSlot). (q.name.name, s)) (slotted ∙ ap (λ (h : ℕ → ℕ). param_slot h q) same)
    ∙ ap param_taker at in
    ap takers_of more ∙ map-append taker_of ts (t ∷ [])
    ∙ ap (λ (zs : List Taker). zs ++ taker_of t ∷ []) so
    ∙ append_assoc before (map param_taker (take i ps)) (taker_of t ∷ [])
    ∙ ap (λ (zs : List Taker). before ++ zs) (ap (λ (x : Taker). map param_taker (take i ps) ++ x ∷ []) one
    ∙ sym (map-append param_taker (take i ps) (get_or ps i q ∷ []))
    ∙ ap (map param_taker) (sym (take_more ps i q below)))

-- all parameters are taken
pub all_are_taken : (p : Code) (m : Definition) (ts : List Parameter) (ps : List Param) (i : ℕ)
    → takers_of ts ≡ me_taker p m ++ map param_taker (take i ps) → length ps ≤ i → ps ≡ m.params
    → takers_of ts ≡ takers p m
all_are_taken p m ts ps i so past same = so
    ∙ ap (λ (zs : List Param). me_taker p m ++ map param_taker zs) (take_all i ps past ∙ same) ∙ sym (all_taken p m)

params_named : (xs : List Param) → map (λ (t : Taker). t.0) (map param_taker xs) ≡ map (λ (x : Param). x.name.name) xs
params_named [] = refl
params_named (x ∷ xs) = ap (λ (ns : List ℕ). x.name.name ∷ ns) (params_named xs)

-- the parameters have their names
pub takers_are_named : (p : Code) (m : Definition) → map (λ (t : Taker). t.0) (takers p m) ≡ param_names m
takers_are_named p m = ap (map (λ (t : Taker). t.0)) (all_taken p m) ∙ by_me m.me
  where
    by_me : (me : Option Me) → map (λ (t : Taker). t.0) (zip (if_some (option_map (λ (x : Me). this) me) [])
        (if_some (option_map (me_slot p (λ g. g) m) me) []) ++ map param_taker m.params)
        ≡ if_some (option_map (λ (x : Me). this) me) (map (λ (x : Param). x.name.name) m.params)
    by_me None = params_named m.params
    by_me (Some me) = ap (λ (ns : List ℕ). this ∷ ns) (params_named m.params)

-- the names of the parameters
taker_names : (ts : List Parameter) → names_bound_by ts ≡ map (λ (t : Taker). t.0) (takers_of ts)
taker_names [] = refl
taker_names (t ∷ ts) = ap (λ (ns : List ℕ). t.name ∷ ns) (taker_names ts)

-- where the names of a method differ, those of its parameters and of the groups that it needs do
pub taken_apart : (p : Code) (m : Definition) (ts : List Parameter) (ns : List GroupNeed) → names_apart m ≡ true
    → takers_of ts ≡ takers p m → ns ≡ m.needs → all_differ (names_bound_by ts ++ need_names ns) ≡ true
taken_apart p m ts ns apart taken same = subst (λ zs. all_differ zs ≡ true)
    (ap (λ zs. zs ++ need_names m.needs)
    (sym (taker_names ts ∙ ap (map (λ (t : Taker). t.0)) taken ∙ takers_are_named p m))
    ∙ ap (λ zs. names_bound_by ts ++ need_names zs) (sym same)) apart
