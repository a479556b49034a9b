-- Paths whose fields are counted.
use Rattle.std.proofs.Common.{◌≡◌, ℕ, ◌+◌, ◌≤◌, ◌<◌, ◌++◌, List, [], ◌∷◌, length, refl, sym, ap, arith, subst}
use Rattle.std.proofs.Common.{length-append}
use Rattle.ae_tree.specs.Limits.{rank}
use Rattle.ae_tree.specs.declared.lexeme.Lexeme.{Lexeme}
use Rattle.ae_tree.specs.declared.lexeme.Lexical.TheVariants as tok
use Rattle.ae_tree.specs.declared.limits.Limit.{Limit}
use Rattle.ae_tree.specs.declared.limits.Limit.TheVariants.{Depth}
use Rattle.ae_tree.specs.declared.tree.NameAt.{NameAt}
use Rattle.ae_tree.specs.Grammar.{Tokens, one_by_one, root, path_step, path}
use Rattle.ae_tree.specs.Names.{io}
use Rattle.ae_reading.specs.declared.fail.Fail.{Fail}
use Rattle.ae_reading.specs.declared.fail.Why.TheVariants.{Over}
use Rattle.ae_reading.specs.Reads.{head, Always, Is, Isnt, Free, IsWithinAll, Took, Stopped, Failed, Larger}
use Rattle.ae_expressions.proofs.from_reading.ReadsLemmas.{Bound, Links, failed_by, stopped_as, stopped_second}
use Rattle.ae_expressions.proofs.from_reading.ReadsLemmas.{at_once, free, io_name}
use Rattle.ae_expressions.proofs.from_reading.Begins.{is_isnt}
use Rattle.ae_expressions.proofs.from_reading.PathLemmas.{dot, stepped, path_of, path_along, path_took}
use Rattle.ae_expressions.proofs.from_reading.PathLemmas.{path_failed_root, path_failed_steps, no_step}
use Rattle.ae_expressions.proofs.from_reading.Runs.{Run, run_start, run_more, run_stopped, run_full, run_end}
use Rattle.ae_expressions.specs.Productions.{IsShortPath}
use Rattle.ae_expressions.proofs.OptionLemmas.{begun, none_before}

abbrev Few : ℕ → Limit → List NameAt → Type 0
Few n l xs = l ≡ Depth → length xs ≤ n

-- the root and the fields that were read
pub record Fields (n : ℕ) (ts : Tokens) (x : NameAt) (xs : List NameAt) (rest : Tokens) : Type 0 where
  pub middle : Tokens
  pub start : Took root Free Always ts x middle
  pub others : Run path_step (Few n) (Isnt dot) middle xs rest

step_turns : Links (one_by_one path_step) (Isnt dot) Always
step_turns zs vs r m f = tt

few_none : (n : ℕ) → IsWithinAll (Few n) []
few_none n l e = omega arith

pub path_failed : (n : ℕ) (ts : Tokens) (e : Fail) → Failed root Free Always ts e
    → Failed path (IsShortPath n) (Isnt dot) ts e
path_failed n ts e f = path_failed_root (Few n) ts e (few_none n) f

pub fields_start : (n : ℕ) (ts rest : Tokens) (x : NameAt) (xs : List NameAt) → Took root Free Always ts x rest
    → xs ≡ [] → Fields n ts x xs rest
fields_start n ts rest x xs t e =
    let P : List NameAt → Type 0 = λ l. Run path_step (Few n) (Isnt dot) rest l rest in
    record {
      middle = rest;
      start = t;
      others = subst P (sym e)
          (run_start path_step (Few n) (Isnt dot) rest (few_none n));
    }

-- one more field fits
fits : (n : ℕ) (xs : List NameAt) (z : NameAt) → length xs < n → (l : Limit) → Few n l (xs ++ z ∷ [])
fits n xs z less l e = let h : length (xs ++ z ∷ []) ≡ length xs + 1 = length-append xs (z ∷ []) in omega
    (arith, h, less)

pub fields_more : (n : ℕ) (ts rest after : Tokens) (x z : NameAt) (xs ys : List NameAt) → Is dot (head rest)
    → length xs < n → Fields n ts x xs rest → Took path_step Free Always rest z after → ys ≡ xs ++ z ∷ []
    → Fields n ts x ys after
fields_more n ts rest after x z xs ys i less c t e =
    let P : List NameAt → Type 0 = λ l. Run path_step (Few n) (Isnt dot) c.middle l after in
    record {
      middle = c.middle;
      start = c.start;
      others = subst P (sym e)
          (run_more step_turns (is_isnt dot (head rest) i) (fits n xs z less) c.others t);
    }

pub fields_stopped : (n : ℕ) (ts rest : Tokens) (x : NameAt) (xs : List NameAt) (e : Fail) → Is dot (head rest)
    → length xs < n → Fields n ts x xs rest → Failed path_step Free Always rest e
    → Failed path (IsShortPath n) (Isnt dot) ts e
fields_stopped n ts rest x xs e i less c f = path_failed_steps (Few n) ts c.middle x e c.start
    (failed_by (λ why left s. run_stopped step_turns (is_isnt dot (head rest) i) (λ l z w. fits n xs z less l)
    (λ l z zs w. tt) c.others s) f)

step_goes_on : (W : Bound NameAt) → ((m : Limit) → rank m < 1 → W m io_name) → (rest : Tokens) → Is dot (head rest)
    → Larger Depth path_step W [] rest
step_goes_on W others rest i =
    let b = begun dot rest i in
    let token_is : b.0 ≡ record { kind = dot; at = b.0.at } = ap (λ k. record { kind = k; at = b.0.at }) b.3 in
    let P : Lexeme → Type 0 = λ t. path_step io_name (t ∷ at_once (tok.Name io)) in
    let one_more : P (record { kind = dot; at = b.0.at }) =
    record {
      front = record { kind = dot; at = b.0.at } ∷ [];
      back = at_once (tok.Name io);
      parts = refl;
      first =
          (b.0.at, refl);
      second = refl;
    } in
    record {
      next = b.0;
      later = b.1;
      rest_is = b.2;
      tree = io_name;
      after = at_once (tok.Name io);
      known =
          (refl, tt);
      goes_on = subst P (sym token_is) one_more;
      passes = tt;
      others = others;
    }

-- one field too many
pub fields_over : (n : ℕ) (ts rest : Tokens) (x : NameAt) (xs : List NameAt) → Is dot (head rest) → n ≤ length xs
    → Fields n ts x xs rest → Stopped path (IsShortPath n) (Isnt dot) ts (Over Depth) (length rest)
fields_over n ts rest x xs i many c = stopped_as path stepped path_of (path_along (Few n) ts)
    (stopped_second (λ l x. Few n l) (free (one_by_one path_step) (Isnt dot)) c.start
    (run_full (Over Depth) (is_isnt dot (head rest) i)
    (λ z zs us r d h few. let h : length (xs ++ z ∷ zs) ≡ length xs + length (z ∷ zs) = length-append xs
    (z ∷ zs) in omega (arith, h, few refl, many))
    (step_goes_on (λ l z. Few n l (xs ++ z ∷ [])) (λ m k e. none_before m k e) rest i) c.others))

pub fields_end : (n : ℕ) (ts rest : Tokens) (x : NameAt) (xs : List NameAt) → (Is dot (head rest) → ⊥)
    → Fields n ts x xs rest → Took path (IsShortPath n) (Isnt dot) ts (path_of (x, xs)) rest
fields_end n ts rest x xs none c = path_took (Few n) ts c.middle rest x xs c.start
    (run_end (no_step rest none) c.others)
