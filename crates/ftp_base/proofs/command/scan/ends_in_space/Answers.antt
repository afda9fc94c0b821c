use Rattle.std.proofs.Common.{rules, refl, ◌≡◌, ◌++◌, List, [], ℕ, true, false, ◌∙◌, sym, ap, take, drop, take-append-drop, append-nil, inl, inr}
use Rattle.std.proofs.lemmas.Bool.{cases_Bool}
use Rattle.std.proofs.Math.Seq.{drop-length}
use Rattle.std.proofs.lemmas.Fn.{always_returns_same}
use Rattle.std.specs.Char.{is_whitespace, encode_utf8}
use Rattle.ftp_base.specs.Scan.{EndsInSpace}
use Rattle.ftp_base.proofs.SizeLemmas.{white_scalar}
use Rattle.ftp_base.proofs.command.scan.ends_in_space.Goals as goal

-- a text that is a front and white space ends in it
ends_in : (text rest : List ℕ) (from c : ℕ) → is_whitespace c ≡ true → drop from text ≡ encode_utf8 c ++ rest → rest ≡ [] → EndsInSpace text
ends_in text rest from c white split none =
    record { front = take from text; space = c; whole = sym (take-append-drop from text) ∙ ap (λ l. take from text ++ l) (split ∙ ap (λ l. encode_utf8 c ++ l) none ∙ append-nil (encode_utf8 c)); is_white = white }

pub returns : goal.returns
returns c = (
  λ is. let h = rw is at c.ends_with.ensures.cases in let (space, white, at) = h.1 is_whitespace (always_returns_same _ _ _ (λ a r f called. (search rules, refl))) in
      ends_in c.args.text.now _ _ space white at.split (drop-length c.args.text.now),
  λ space. elim (cases_Bool c.ends_with.result) [
    | inl is ↦ is
    | inr is_not ↦ (let h = rw is_not at c.ends_with.ensures.cases in
        let white_not : is_whitespace space.space ≡ false = h is_whitespace (always_returns_same _ _ _ (λ a r f called. (search rules, refl))) space.space space.front (white_scalar space.space space.is_white) space.whole in
        let both : true ≡ false = sym space.is_white ∙ white_not in cc both)
  ],
)
