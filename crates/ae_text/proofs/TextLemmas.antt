-- Texts between quotes.
use Rattle.std.proofs.Common.{◌≡◌, ℕ, ◌+◌, ◌-◌, ◌<◌, Bool, false, IsTrue, List, [], ◌∷◌, ◌++◌, length, inl, inr}
use Rattle.std.proofs.Common.{refl, sym, ap, ◌∙◌, append_assoc, append-nil, arith}
use Rattle.std.specs.Char.{encode_utf8}
use Rattle.std.specs.Str.{encode_utf8_all, chars}
use Rattle.std.proofs.lemmas.Str.{encodes-append}
use Rattle.ae_text.specs.declared.refusal.Rule.TheVariants as rule
use Rattle.ae_text.specs.declared.faults.Fault.{Fault}
use Rattle.ae_text.specs.declared.faults.Fault.TheVariants as fault
use Rattle.ae_text.specs.declared.texts.Part.{Part}
use Rattle.ae_text.specs.declared.texts.Part.TheVariants.{Plain, Escape}
use Rattle.ae_text.specs.Tokens.{Text, width, escape_meaning, parts_text, AreParts, AreKnownEscapes, parts_meaning}
use Rattle.ae_text.specs.Tokens.{EndsOpen}
use Rattle.ae_text.specs.Scan.{Front, EndsText, PartThen, PartsThen, NoQuote, Means, IsUnknown, BadEscapeFault}
use Rattle.ae_text.specs.Scan.{ValueThen, FaultAfter, Faults}
use Rattle.ae_text.proofs.ScanLemmas.{front_nil, front_then, front_as, front_length, front_smaller}

pub no_truth : IsTrue false → ⊥
no_truth h = cc

pub not_both : (b : Bool) → IsTrue b → b ≡ false → ⊥
not_both b h e = cc

pub first_is : (b c : ℕ) (s r : Text) → b ∷ s ≡ c ∷ r → b ≡ c
first_is b c s r e = cc

-- ---- one list of parts after another

pub spelled-append : (a b : List Part) → parts_text (a ++ b) ≡ parts_text a ++ parts_text b
spelled-append [] b = refl
spelled-append (Plain c ∷ a) b = ap (λ x. c ∷ x) (spelled-append a b)
spelled-append (Escape c ∷ a) b = ap (λ x. 92 ∷ c ∷ x) (spelled-append a b)

pub parts-append : (a b : List Part) → AreParts a → AreParts b → AreParts (a ++ b)
parts-append [] b m n = n
parts-append (Plain c ∷ a) b m n = (m.0, parts-append a b m.1 n)
parts-append (Escape c ∷ a) b m n = (m.0, parts-append a b m.1 n)

known-append : (a b : List Part) → AreKnownEscapes a → AreKnownEscapes b → AreKnownEscapes (a ++ b)
known-append [] b m n = n
known-append (Plain c ∷ a) b m n = known-append a b m n
known-append (Escape c ∷ a) b m n = (m.0, known-append a b m.1 n)

meant-append : (a b : List Part) → parts_meaning (a ++ b) ≡ parts_meaning a ++ parts_meaning b
meant-append [] b = refl
meant-append (Plain c ∷ a) b = ap (λ x. c ∷ x) (meant-append a b)
meant-append (Escape c ∷ a) b = ap (λ x. escape_meaning c ∷ x) (meant-append a b)

-- ---- the parts at the front of a text

pub record Parts (text after : Text) : Type 0 where
  pub parts : List Part
  pub front : Front text (parts_text parts) after
  pub are : AreParts parts

pub parts_start : (text : Text) → Parts text text
parts_start text = record { parts = []; front = front_nil text; are = tt }

pub parts_more : (text mid after : Text) (p : Part) → Parts text mid → PartThen mid p after → Parts text after
parts_more text mid after p r k = record {
  parts = r.parts ++ p ∷ [];
  front = front_as text after _ _ (sym (spelled-append r.parts (p ∷ [])))
      (front_then text mid after (parts_text r.parts) (parts_text (p ∷ [])) r.front k.front);
  are = parts-append r.parts (p ∷ []) r.are k.is;
}

pub part_smaller : (text after : Text) (p : Part) → PartThen text p after → length after < length text
part_smaller text after (Plain c) k = front_smaller text after c [] k.front
part_smaller text after (Escape c) k = front_smaller text after 92 (c ∷ []) k.front

pub parts_end : (text after : Text) → Parts text after → EndsText (chars after) → PartsThen text after
parts_end text after r e = record { parts = r.parts; front = r.front; are = r.are; ends = e }

-- ---- the value of a text

pub record Reads (quoted rest bytes : Text) : Type 0 where
  pub parts : List Part
  pub front : Front quoted (34 ∷ parts_text parts) rest
  pub are : AreParts parts
  pub known : AreKnownEscapes parts
  pub value_is : bytes ≡ encode_utf8_all (parts_meaning parts)

pub reads_start : (quoted inner bytes : Text) → Front quoted (34 ∷ []) inner → bytes ≡ [] → Reads quoted inner bytes
reads_start quoted inner bytes f e = record { parts = []; front = f; are = tt; known = tt; value_is = e }

pub reads_more : (quoted mid after bytes bytes' : Text) (p : Part) (c : ℕ) → Reads quoted mid bytes
    → PartThen mid p after → Means p c → bytes' ≡ bytes ++ encode_utf8 c → Reads quoted after bytes'
reads_more quoted mid after bytes bytes' p c r k m e = record {
  parts = r.parts ++ p ∷ [];
  front = front_as quoted after _ _ (ap (λ x. 34 ∷ x) (sym (spelled-append r.parts (p ∷ []))))
      (front_then quoted mid after (34 ∷ parts_text r.parts) (parts_text (p ∷ [])) r.front k.front);
  are = parts-append r.parts (p ∷ []) r.are k.is;
  known = known-append r.parts (p ∷ []) r.known m.0;
  value_is = e ∙ ap (λ x. x ++ encode_utf8 c) r.value_is ∙ ap (λ x. encode_utf8_all (parts_meaning r.parts) ++ x)
      (sym (append-nil (encode_utf8 c)))
      ∙ sym (encodes-append (parts_meaning r.parts) (c ∷ [])) ∙ ap (λ x. encode_utf8_all (parts_meaning r.parts ++ x))
      (sym m.1) ∙ ap encode_utf8_all (sym (meant-append r.parts (p ∷ [])));
}

pub reads_end : (quoted rest after bytes bytes' : Text) → Reads quoted rest bytes → Front rest (34 ∷ []) after
    → bytes' ≡ bytes → ValueThen quoted bytes' after
reads_end quoted rest after bytes bytes' r f e = record {
  parts = r.parts;
  front = front_then quoted rest after (34 ∷ parts_text r.parts) (34 ∷ []) r.front f;
  are = r.are;
  known = r.known;
  value_is = e ∙ r.value_is;
}

-- where parts end and no quote comes, a text is open
pub ends_open : (text : Text) → EndsText text → NoQuote text → EndsOpen text
ends_open [] e n = tt
ends_open (c ∷ text) (inl e) n = absurd (n text (ap (λ x. x ∷ text) e))
ends_open (c ∷ text) (inr e) n = e

pub reads_bad : (quoted rest after bytes : Text) (p : Part) (ahead : ℕ) (f : Fault) → Reads quoted rest bytes
    → PartThen rest p after → IsUnknown p → ahead ≡ length quoted - length rest → BadEscapeFault ahead (chars after) f
    → Faults quoted f
reads_bad quoted rest after bytes (Plain c) ahead f r k u a b = absurd u
reads_bad quoted rest after bytes (Escape c) ahead (fault.Rule rule.BadChar n) r k u a b = record {
  before = 34 ∷ parts_text r.parts;
  after = rest;
  front = r.front;
  ahead_is = let size : length quoted ≡ width (34 ∷ parts_text r.parts) + length rest =
      front_length quoted rest _ r.front in omega (arith, b.0);
  is = inr (record {
    inner = r.parts;
    front = refl;
    are = r.are;
    known = r.known;
    char = c;
    more = b.1.0;
    after = b.1.1;
    parts = k.front.characters ∙ ap (λ x. 92 ∷ c ∷ x) b.1.2;
    goes_on_line = k.is.0;
    unknown = u;
    are_more = b.1.3;
  });
}
reads_bad quoted rest after bytes (Escape c) ahead (fault.Rule rule.OpenText n) r k u a b = record {
  before = [];
  after = quoted;
  front = front_nil quoted;
  ahead_is = b.0;
  is = (
    refl,
    record {
      inner = r.parts ++ Escape c ∷ b.1.0;
      after = b.1.1;
      parts = r.front.characters ∙ ap (λ x. 34 ∷ (parts_text r.parts ++ x))
          (k.front.characters ∙ ap (λ x. 92 ∷ c ∷ x) b.1.2)
          ∙ ap (λ x. 34 ∷ x) (sym (append_assoc (parts_text r.parts) (92 ∷ c ∷ parts_text b.1.0) b.1.1)
          ∙ ap (λ x. x ++ b.1.1) (sym (spelled-append r.parts (Escape c ∷ b.1.0))));
      are = parts-append r.parts (Escape c ∷ b.1.0) r.are (k.is.0, b.1.3);
      ends = b.1.4;
    },
  );
}
reads_bad quoted rest after bytes (Escape c) ahead (fault.Rule _ n) r k u a b = absurd b
reads_bad quoted rest after bytes (Escape c) ahead fault.Memory r k u a b = absurd b

pub closed_fault : (text after end : Text) (ahead : ℕ) → PartsThen text after → Front after (34 ∷ []) end
    → BadEscapeFault ahead (chars text) (fault.Rule rule.BadChar ahead)
closed_fault text after end ahead p f =
    (refl, (p.parts, chars end, p.front.characters ∙ ap (λ x. parts_text p.parts ++ x) f.characters, p.are))

pub open_fault : (text after : Text) (ahead : ℕ) → PartsThen text after → NoQuote (chars after)
    → BadEscapeFault ahead (chars text) (fault.Rule rule.OpenText 0)
open_fault text after ahead p n =
    (refl, (p.parts, chars after, p.front.characters, p.are, ends_open (chars after) p.ends n))
