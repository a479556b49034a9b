-- What follows a state in a run: a state that fits what is known then, with no group away and no new name of a group.
use Rattle.std.proofs.Common.{◌≡◌, ◌≢◌, refl, sym, ap, ◌∙◌, ℕ, Bool, true, false, if◌then◌else◌}
use Rattle.std.proofs.Common.{Option, Some}
use Rattle.std.specs.Prelude.{nat_eq}
use Rattle.ae_text.specs.declared.refusal.Spot.{Spot}
use Rattle.ae_tree.specs.Plain.{Lines, Definition, Code}
use Rattle.ae_rules.specs.Verdict.{Holds, ◌>>=◌}
use Rattle.ae_rules.specs.Context.{Context, closed}
use Rattle.ae_rules.specs.Groups.{known}
use Rattle.ae_rules.specs.Statements.{groups_stay, end_block, judge_lines}
use Rattle.ae_rules.specs.Laws.{Keeps}
use Rattle.ae_semantics.specs.declared.report.Ending.TheVariants.{Done, Trap, Fuel}
use Rattle.ae_semantics.specs.Places.{Outcome, Fine, Traps, Lacks, CellName, Group, Here, Away, As, State}
use Rattle.ae_semantics.specs.Places.{name_of}
use Rattle.ae_semantics.specs.Values.{Store}
use Rattle.ae_semantics.specs.Observations.{Notes}
use Rattle.ae_semantics.specs.Runs.{Run, Went, Ends, Stops, Act, and_then, outcome_given}
use Rattle.ae_semantics.specs.Meaning.{forgotten, left}
use Rattle.ae_soundness.specs.Fits.{FitsContext, NoneAway}
use Rattle.ae_soundness.specs.Laws.{KeepsFitting}
use Rattle.ae_soundness.specs.Returns.{HasResult}
use Rattle.ae_soundness.specs.Whole.{StandsAt, RunsTo}
use Rattle.ae_soundness.proofs.OutcomeLemmas.{Comes}
use Rattle.ae_soundness.proofs.LastingLemmas.{Leaves, Lasts, LastsBack, is_no_name}
use Rattle.ae_soundness.proofs.LeavingLemmas.{NamesStay, left_fits, seen_is}
use Rattle.ae_soundness.proofs.from_rules.PathLemmas.{first_holds}

-- ---- runs

-- A run goes on from where the one before it came to.
pub runs_on : {W : Type 0} (P Q : State → Type 0) (r : Run W) (go : Act W) → RunsTo P r
    → ((s : State) (n : Notes W) → P s → RunsTo Q (go s n)) → RunsTo Q (and_then r go)
runs_on P Q (Went s n) go h k = k s n h
runs_on P Q (Ends Done n) go h k = absurd h
runs_on P Q (Ends (Trap code at) n) go h k = tt
runs_on P Q (Ends (Fuel at) n) go h k = tt
runs_on P Q (Stops n) go h k = absurd h

-- What comes is there for the run after it.
pub outcome_runs : {A W : Type 0} (P : A → Type 0) (Q : State → Type 0) (o : Outcome A) (at : Spot) (n : Notes W)
    (go : A → Run W) → Comes P o → ((x : A) → P x → RunsTo Q (go x)) → RunsTo Q (outcome_given o at n go)
outcome_runs P Q (Fine x) at n go h k = k x h
outcome_runs P Q (Traps code) at n go h k = tt
outcome_runs P Q Lacks at n go h k = absurd h

-- A run to this is one to what follows from it.
pub runs_so : {W : Type 0} (P Q : State → Type 0) (r : Run W) → RunsTo P r → ((s : State) → P s → Q s) → RunsTo Q r
runs_so P Q (Went s n) h k = k s h
runs_so P Q (Ends Done n) h k = absurd h
runs_so P Q (Ends (Trap code at) n) h k = tt
runs_so P Q (Ends (Fuel at) n) h k = tt
runs_so P Q (Stops n) h k = absurd h

-- What a run leaves holds where it goes on.
pub runs_leaving : {W : Type 0} (P Q R : State → Type 0) (r : Run W) → RunsTo P r → Leaves Q r
    → ((s : State) → P s → Q s → R s) → RunsTo R r
runs_leaving P Q R (Went s n) h l k = k s h l
runs_leaving P Q R (Ends Done n) h l k = absurd h
runs_leaving P Q R (Ends (Trap code at) n) h l k = tt
runs_leaving P Q R (Ends (Fuel at) n) h l k = tt
runs_leaving P Q R (Stops n) h l k = absurd h

-- A run that keeps fitting is one to a state that fits.
pub fitting_runs : {W : Type 0} (p : Code) (d : Context) (r : Run W) → KeepsFitting p d r → RunsTo (FitsContext p d) r
fitting_runs p d (Went s n) h = h
fitting_runs p d (Ends Done n) h = absurd h
fitting_runs p d (Ends (Trap code at) n) h = tt
fitting_runs p d (Ends (Fuel at) n) h = tt
fitting_runs p d (Stops n) h = absurd h

-- ---- groups

away_or : (b : Bool) (st : Store) (old : Option Group) (cell : CellName) → old ≢ Some (Away cell)
    → (if b then Some (Here st) else old) ≢ Some (Away cell)
away_or true st old cell k e = absurd (cc e)
away_or false st old cell k e = k e

-- Small changes take no group away.
pub none_away_lasts : Lasts NoneAway
none_away_lasts = record {
  bound = λ x b s h. h;
  store = λ g st s h y cell. away_or (nat_eq (name_of s g) y) st (s.groups y) cell (h y cell);
}

named_or : (b : Bool) (new old : Option Group) (h : ℕ) → is_no_name new ≡ true
    → (if b then new else old) ≡ Some (As h) → old ≡ Some (As h)
named_or true new old h n e = absurd (cc (sym n ∙ ap is_no_name e))
named_or false new old h n e = e

-- What is no name is a new name of no group.
pub names_last_back : (s : State) → LastsBack (NamesStay s)
names_last_back s g o t n k y h e = k y h (named_or (nat_eq (name_of t g) y) o (t.groups y) h n e)

-- Small changes give no group a new name.
pub names_last : (s : State) → Lasts (NamesStay s)
names_last s = record {
  bound = λ x b t k. k;
  store = λ g st t k. names_last_back s g (Some (Here st)) t refl k;
}

-- ---- what follows

-- This state follows the other where this is known: it stands there, and no group has a new name. At the end of a
-- method there is a result.
pub record Follows (p : Code) (m : Definition) (last : Bool) (d : Context) (s t : State) : Type 0 where
  pub stands : StandsAt p d t
  pub names : NamesStay s t
  pub result : last ≡ true → HasResult p m t

-- What follows a state that follows another follows that.
pub follows_on : (p : Code) (m : Definition) (last : Bool) (d : Context) (s t u : State) → NamesStay s t
    → Follows p m last d t u → Follows p m last d s u
follows_on p m last d s t u k f = record {
  stands = f.stands;
  names = λ g h e. k g h (f.names g h e);
  result = f.result;
}

forgotten_stays : (c : Context) (s t : State) → NamesStay s t → NamesStay s (forgotten c t)
forgotten_stays c s t k g h e = k g h (seen_is (known c.group g) (t.groups g) (As h) e).1

forgotten_here : (c : Context) (t : State) → NoneAway t → NoneAway (forgotten c t)
forgotten_here c t k g cell e = k g cell (seen_is (known c.group g) (t.groups g) (Away cell) e).1

-- What follows in a block follows where it is left.
pub block_left : {W : Type 0} (p : Code) (m : Definition) (last : Bool) (c d : Context) (s : State) (r : Run W)
    → FitsContext p c s → Keeps c d → RunsTo (Follows p m last d s) r
    → RunsTo (Follows p m last (closed c d) s) (left c r)
block_left p m last c d s r z k h =
    runs_on (Follows p m last d s) (Follows p m last (closed c d) s) r (λ t n. Went (forgotten c t) n) h
    (λ t n f. record {
      stands = (left_fits p c d s t z f.names k f.stands.0, forgotten_here c t f.stands.1);
      names = forgotten_stays c s t f.names;
      result = f.result;
    })

-- ---- judged blocks

-- A judged block is judged lines, and what is known after it is what is left of what is known after them.
pub block_judged : (p : Code) (m : Definition) (b : Lines) (c start e : Context)
    → (judge_lines p m b start >>= end_block p c b) ≡ Holds e
    → (d : Context) × (judge_lines p m b start ≡ Holds d) × (closed c d ≡ e)
block_judged p m b c start e h =
    let r = first_holds (judge_lines p m b start) (end_block p c b) e h in
    let q = first_holds (groups_stay p c r.0 b) (λ _. Holds (closed c r.0)) e r.2 in
    (r.0, r.1, cc (q.2))
