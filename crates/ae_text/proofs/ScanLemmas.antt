-- Fronts of a text, spans of a class, and the values of digits.
use Rattle.std.proofs.Common.{◌≡◌, ℕ, zero, suc, ◌+◌, ◌-◌, ◌*◌, ◌<◌, ◌≤◌, Bool, false, IsTrue, [], ◌∷◌, ◌++◌, length}
use Rattle.std.proofs.Common.{take, drop, get_or, refl, sym, ap, ◌∙◌, subst, append_assoc, append-nil, length-append}
use Rattle.std.proofs.Common.{arith, rules, tests}
use Rattle.std.proofs.Math.Seq.{take-append_seam}
use Rattle.std.specs.Char.{encode_utf8}
use Rattle.std.specs.Str.{encode_utf8_all, chars, IsUtf8}
use Rattle.std.proofs.lemmas.Str.{chars-nil, chars_past_char, encodes-append, encode_ascii, length-encode}
use Rattle.std.proofs.lemmas.Str.{len_utf8_bounds, IsUtf8-past_char}
use Rattle.ae_text.specs.Tokens.{Text, width, Each, Stops, is_digit, value_from}
use Rattle.ae_text.specs.Scan.{Front, Continues, Spans}

-- ---- fronts

pub front_nil : (text : Text) → Front text [] text
front_nil text = record { bytes = refl; characters = refl }

pub front_one : (text rest : Text) (c : ℕ) → IsUtf8 text → text ≡ encode_utf8 c ++ rest → Front text (c ∷ []) rest
front_one text rest c u e = record {
  bytes = e ∙ ap (λ x. x ++ rest) (sym (append-nil (encode_utf8 c)));
  characters =
      chars_past_char text rest c u e;
}

pub front_then : (a b c s r : Text) → Front a s b → Front b r c → Front a (s ++ r) c
front_then a b c s r p q = record {
  bytes = p.bytes ∙ ap (λ x. encode_utf8_all s ++ x) q.bytes
      ∙ sym (append_assoc (encode_utf8_all s) (encode_utf8_all r) c) ∙ ap (λ x. x ++ c) (sym (encodes-append s r));
  characters = p.characters ∙ ap (λ x. s ++ x) q.characters ∙ sym (append_assoc s r (chars c));
}

-- the characters taken, written in another way
pub front_as : (text after s r : Text) → s ≡ r → Front text s after → Front text r after
front_as text after s r e p = let P : Text → Type 0 = λ x. Front text x after in subst P e p

pub front_length : (text after s : Text) → Front text s after → length text ≡ width s + length after
front_length text after s p = ap length p.bytes ∙ length-append (encode_utf8_all s) after

pub front_take : (text after s : Text) (n : ℕ) → Front text s after → n ≡ width s → take n text ≡ encode_utf8_all s
front_take text after s n p e = ap (λ k. take k text) e ∙ ap (take (width s)) p.bytes
    ∙ take-append_seam (encode_utf8_all s) after

utf8_behind : (s after : Text) → IsUtf8 (encode_utf8_all s ++ after) → IsUtf8 after
utf8_behind [] after u = u
utf8_behind (c ∷ s) after u = utf8_behind s after
    (IsUtf8-past_char _ _ c u (append_assoc (encode_utf8 c) (encode_utf8_all s) after))

pub front_utf8 : (text after s : Text) → Front text s after → IsUtf8 text → IsUtf8 after
front_utf8 text after s p u = let P : Text → Type 0 = IsUtf8 in utf8_behind s after (subst P p.bytes u)

none_of_length : (text : Text) → length text ≡ 0 → text ≡ []
none_of_length [] e = refl
none_of_length (b ∷ text) e = absurd (omega arith)

pub nothing_left : (text : Text) → length text ≡ 0 → chars text ≡ []
nothing_left text e = ap chars (none_of_length text e) ∙ chars-nil

-- ---- spans

pub each_push : (c : ℕ → Bool) (s : Text) (x : ℕ) → Each c s → IsTrue (c x) → Each c (s ++ x ∷ [])
each_push c [] x e h = (h, tt)
each_push c (y ∷ s) x e h = (e.0, each_push c s x e.1 h)

pub stops_here : (c : ℕ → Bool) (text rest : Text) (x : ℕ) → chars text ≡ x ∷ rest → c x ≡ false → Stops c (chars text)
stops_here c text rest x e h = let P : Text → Type 0 = Stops c in subst P (sym e) h

pub stops_end : (c : ℕ → Bool) (text : Text) → chars text ≡ [] → Stops c (chars text)
stops_end c text e = let P : Text → Type 0 = Stops c in subst P (sym e) tt

some_width : (c : ℕ) → 1 ≤ width (c ∷ [])
some_width c = omega (arith, ap length (append-nil (encode_utf8 c)), length-encode c, (len_utf8_bounds c).0)

pub front_smaller : (text after : Text) (c : ℕ) (s : Text) → Front text (c ∷ s) after → length after < length text
front_smaller text after c s p =
    let one : 1 ≤ width (c ∷ []) = some_width c in
    let all : width (c ∷ s) ≡ width (c ∷ []) + width s = ap length (encodes-append (c ∷ []) s)
    ∙ length-append (encode_utf8_all (c ∷ [])) (encode_utf8_all s) in
    omega (arith, front_length text after (c ∷ s) p, one, all)

-- what has been taken of a span
pub record Run (c : ℕ → Bool) (text after : Text) : Type 0 where
  pub taken : Text
  pub front : Front text taken after
  pub each : Each c taken

pub run_start : (c : ℕ → Bool) (text : Text) → Run c text text
run_start c text = record { taken = []; front = front_nil text; each = tt }

pub run_more : (c : ℕ → Bool) (text mid after : Text) → Run c text mid → Continues c mid after → Run c text after
run_more c text mid after r k =
    record {
      taken = r.taken ++ k.char ∷ [];
      front = front_then text mid after r.taken
          (k.char ∷ []) r.front k.front;
      each = each_push c r.taken k.char r.each k.is;
    }

pub run_smaller : (c : ℕ → Bool) (mid after : Text) → Continues c mid after → length after < length mid
run_smaller c mid after k = front_smaller mid after k.char [] k.front

pub run_within : (c : ℕ → Bool) (text after : Text) → Run c text after → length after ≤ length text
run_within c text after r = omega (arith, front_length text after r.taken r.front)

pub run_end : (c : ℕ → Bool) (text after : Text) → Run c text after → Stops c (chars after)
    → Spans c text (take (length text - length after) text) after
run_end c text after r s =
    let size : length text - length after ≡ width r.taken = omega (arith, front_length text after r.taken r.front) in
    record {
      taken = r.taken;
      front = r.front;
      bytes_are = front_take text after r.taken _ r.front size;
      each =
          r.each;
      stops = s;
    }

-- ---- digits

digit_low : (b : ℕ) → IsTrue (is_digit b) → b < 128
digit_low b h = search (rules, tests)

pub digits_same : (s : Text) → Each is_digit s → encode_utf8_all s ≡ s
digits_same [] e = refl
digits_same (b ∷ s) e = ap (λ x. x ++ encode_utf8_all s) (encode_ascii b (digit_low b e.0))
    ∙ ap (λ x. b ∷ x) (digits_same s e.1)

pub digits_are : (text bytes after : Text) (p : Spans is_digit text bytes after) → bytes ≡ p.taken
digits_are text bytes after p = p.bytes_are ∙ digits_same p.taken p.each

pub span_digits : (text bytes after : Text) → Spans is_digit text bytes after → Each is_digit bytes
span_digits text bytes after p = let P : Text
    → Type 0 = Each is_digit in subst P (sym (digits_are text bytes after p)) p.each

pub each_at : (c : ℕ → Bool) (text : Text) (i : ℕ) → Each c text → i < length text → IsTrue (c (get_or text i 0))
each_at c [] i e h = absurd (omega arith)
each_at c (b ∷ bs) zero e h = e.0
each_at c (b ∷ bs) (suc i) e h = each_at c bs i e.1 (omega arith)

pub digit_from : (b : ℕ) → IsTrue (is_digit b) → 48 ≤ b
digit_from b h = search (rules, tests)

value_grows : (v : ℕ) (ds : Text) → v ≤ value_from v ds
value_grows v [] = omega arith
value_grows v (d ∷ ds) = omega (arith, value_grows (v * 10 + (d - 48)) ds)

pub value_at : (v : ℕ) (text : Text) (i : ℕ) → i < length text
    → v * 10 + (get_or text i 0 - 48) ≤ value_from v (drop i text)
value_at v [] i h = absurd (omega arith)
value_at v (b ∷ bs) zero h = value_grows (v * 10 + (b - 48)) bs
value_at v (b ∷ bs) (suc i) h = value_at v bs i (omega arith)
