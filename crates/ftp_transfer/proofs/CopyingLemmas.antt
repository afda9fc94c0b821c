-- Lemmas on a source that is copied to a transfer.
use Rattle.std.proofs.Common.{◌≡◌, ◌==◌, ◌<◌, ◌+◌, ◌-◌, ◌⊎◌, ℕ, Bool, true, false, List, [], ◌∷◌, ◌++◌, Option, Result, Ok, Err, inl, inr, refl, ap, sym, subst, ◌∙◌, length, take, drop, arith, append_assoc, append-nil, take-append-drop}
use Rattle.std.proofs.Math.Seq.{take-add}
use Rattle.std.proofs.lemmas.List.{length-append, take_rest}
use Rattle.std.proofs.KnownBytes.{Consumes-kept, Consumes-nil, Consumes-trans}
use Rattle.std.specs.Io.KnownBytes.{Consumes, Keeps}
use Rattle.std.specs.Prelude.{IsErr, IsErrAnd}
use Rattle.ftp_base.specs.Ascii.{AddsPiece, converted, crlf, ends_in_return, wire_data}
use Rattle.ftp_base.proofs.AsciiLemmas.{crlf-append}
use Rattle.ftp_base.proofs.CopyLemmas.{added-all, added-length, length-converted}
use Rattle.ftp_base.specs.declared.types.fault.FtpError.{FtpError}
use Rattle.ftp_base.specs.declared.types.fault.FtpError.TheVariants.{ConnectionError, OutOfMemory}
use Rattle.ftp_base.specs.declared.types.fault.ConnectionError.TheVariants.{Io, SourceTooLarge}
use Rattle.std.specs.declared.io.ErrorKind.{ErrorKind}
use Rattle.ftp_transfer.specs.Copying.{Adds, Copied, Copies, GaveUp, Hinders, HinderedPiece, SendsAll, SendsPiece, SentPiece, TooLarge, Wrote, WroteFront}
use Rattle.ftp_transfer.specs.Transfer.{TransferValue, with_told}

-- what a source gave so far has gone out
pub record SoFar (tells : Type 0) (text : Bool) (source source' : Option (List ℕ)) (old new : TransferValue) (after : Bool) (count : ℕ) : Type 0 where
  pub copied : Copied tells text source source' old new count
  pub last : text ≡ true → after ≡ ends_in_return copied.given

-- nothing was written
pub wrote_none : (tells : Type 0) (t : TransferValue) → Wrote tells [] t t
wrote_none tells t = record { sent = λ h. sym (append-nil t.told.sent); calm = λ h. refl; kept = refl }

-- and then more
pub wrote_more : (tells : Type 0) (one other : List ℕ) (old mid new : TransferValue) → Wrote tells one old mid → Wrote tells other mid new → Wrote tells (one ++ other) old new
wrote_more tells one other old mid new first second = record {
  sent = λ h. second.sent h ∙ ap (λ l. l ++ other) (first.sent h) ∙ append_assoc old.told.sent one other;
  calm = λ h. second.calm h ∙ first.calm h;
  kept = second.kept ∙ ap (with_told new.told) first.kept;
}

pub wrote_as : (tells : Type 0) (one other : List ℕ) (old new : TransferValue) → one ≡ other → Wrote tells one old new → Wrote tells other old new
wrote_as tells one other old new same = subst (λ l. Wrote tells l old new) same

-- a front after what was written
pub front_more : (tells : Type 0) (one other : List ℕ) (old mid new : TransferValue) → Wrote tells one old mid → WroteFront tells other mid new → WroteFront tells (one ++ other) old new
front_more tells one other old mid new first second = record {
  front = one ++ second.front;
  rest = second.rest;
  parts = ap (λ l. one ++ l) second.parts ∙ sym (append_assoc one second.front second.rest);
  sent = λ h. second.sent h ∙ ap (λ l. l ++ second.front) (first.sent h) ∙ append_assoc old.told.sent one second.front;
  kept = second.kept ∙ ap (with_told new.told) first.kept;
}

pub front_as : (tells : Type 0) (one other : List ℕ) (old new : TransferValue) → one ≡ other → WroteFront tells one old new → WroteFront tells other old new
front_as tells one other old new same = subst (λ l. WroteFront tells l old new) same

-- nothing of bytes was written
pub front_none : (tells : Type 0) (bytes : List ℕ) (t : TransferValue) → WroteFront tells bytes t t
front_none tells bytes t = record { front = []; rest = bytes; parts = refl; sent = λ h. sym (append-nil t.told.sent); kept = refl }

-- what is done grows by what was written
pub moves_front : (all done rest : List ℕ) (n : ℕ) → all ≡ done ++ rest → all ≡ (done ++ take n rest) ++ take (length rest - n) (drop n rest)
moves_front all done rest n e =
    e ∙ ap (λ l. done ++ l) (sym (take-append-drop n rest)) ∙ sym (append_assoc done (take n rest) (drop n rest)) ∙ ap (λ l. (done ++ take n rest) ++ l) (sym (take_rest rest n))

-- nothing was copied yet
pub so_far_none : (tells : Type 0) (text : Bool) (source : Option (List ℕ)) (t : TransferValue) → SoFar tells text source source t t (ends_in_return []) 0
so_far_none tells text source t = record {
  copied = record { given = []; taken = Consumes-nil source; wrote = wrote_as tells [] (wire_data text []) t t (nothing text) (wrote_none tells t); counted = ap length (nothing text) };
  last = λ is. refl;
}
  where
    nothing : (b : Bool) → [] ≡ wire_data b []
    nothing true = refl
    nothing false = refl

-- the next piece was written
pub so_far_more : (tells : Type 0) (text : Bool) (r s t : Option (List ℕ)) (old mid new : TransferValue) (after after' : Bool) (count size : ℕ) (piece : List ℕ) (far : SoFar tells text r s old mid after count) → Consumes s t piece → SentPiece tells text far.copied.given piece after' mid new count size → SoFar tells text r t old new after' size
so_far_more tells text r s t old mid new after after' count size piece far taken sent =
    let given : List ℕ = far.copied.given in
    let before : List ℕ = wire_data text given in
    record {
      copied = record {
        given = given ++ piece;
        taken = Consumes-trans r s t given piece far.copied.taken taken;
        wrote = wrote_as tells (before ++ sent.added) (wire_data text (given ++ piece)) old new (sym sent.adds.whole) (wrote_more tells before sent.added old mid new far.copied.wrote sent.wrote);
        counted = sent.counts ∙ ap (λ n. n + length sent.added) far.copied.counted ∙ sym (length-append before sent.added) ∙ sym (ap length sent.adds.whole);
      };
      last = sent.last;
    }

-- other errors aren't that of a source that is too large
pub io_is_other : (kind : ErrorKind) (size : ℕ) → TooLarge (ConnectionError (Io kind)) size
io_is_other kind size same = let clash : ConnectionError (Io kind) ≡ ConnectionError SourceTooLarge = same in cc

pub memory_is_other : (fault : FtpError) (size : ℕ) → fault ≡ OutOfMemory → TooLarge fault size
memory_is_other fault size is same = let clash : OutOfMemory ≡ ConnectionError SourceTooLarge = sym is ∙ same in cc

-- the next bytes of a block were read in after the filled ones
pub block_more : (r s t : Option (List ℕ)) (xs ys : List ℕ) (filled n : ℕ) → Consumes r s (take filled xs) → take filled ys ≡ take filled xs → Consumes s t (take n (drop filled ys)) → Consumes r t (take (filled + n) ys)
block_more r s t xs ys filled n before front more =
    let piece : List ℕ = take n (drop filled ys) in
    subst (Consumes r t) (sym (take-add filled n ys ∙ ap (λ l. l ++ piece) front)) (Consumes-trans r s t (take filled xs) piece before more)

-- or none was
pub block_end : (r s t : Option (List ℕ)) (xs ys : List ℕ) (filled n : ℕ) → Consumes r s (take filled xs) → take filled ys ≡ take filled xs → Consumes s t (take n (drop filled ys)) → n ≡ 0 → Consumes r t (take filled ys)
block_end r s t xs ys filled n before front more none =
    let same : filled + n ≡ filled = omega (arith, none) in
    subst (λ k. Consumes r t (take k ys)) same (block_more r s t xs ys filled n before front more)

pub block_kept : (r s t : Option (List ℕ)) (xs ys : List ℕ) (filled : ℕ) → Consumes r s (take filled xs) → take filled ys ≡ take filled xs → Keeps s t → Consumes r t (take filled ys)
block_kept r s t xs ys filled before front kept = subst (Consumes r t) (sym front) (Consumes-kept r s t (take filled xs) before kept)

-- the source failed
pub source_fails : (tells : Type 0) (text : Bool) (r s : Option (List ℕ)) (old new : TransferValue) (after : Bool) (count : ℕ) (kind : ErrorKind) → SoFar tells text r s old new after count → GaveUp tells text r s old new (ConnectionError (Io kind))
source_fails tells text r s old new after count kind far = record { given = far.copied.given; taken = far.copied.taken; wrote = inl (far.copied.wrote, inl (kind, refl)); too_large = io_is_other kind (length (wire_data text far.copied.given)) }

-- what hinders a piece hinders the copy: no call had failed before
hinders_since : (tells : Type 0) (bytes : List ℕ) (old mid new : TransferValue) (fault : FtpError) → Wrote tells bytes old mid → Hinders tells mid new fault → Hinders tells old new fault
hinders_since tells bytes old mid new fault first (inl is) = inl is
hinders_since tells bytes old mid new fault first (inr (inl is)) = inr (inl is)
hinders_since tells bytes old mid new fault first (inr (inr (kind, is, failed))) = inr (inr (kind, is, λ h. (counted (first.calm h) (failed h).0, (failed h).1)))
  where
    counted : mid.told.failures ≡ old.told.failures → (mid.told.failures < new.told.failures) ⊎ (new.told.failures ≡ 18446744073709551615) → (old.told.failures < new.told.failures) ⊎ (new.told.failures ≡ 18446744073709551615)
    counted same (inl more) = inl (omega (arith, same, more))
    counted same (inr full) = inr full

-- a piece couldn't be written whole
pub piece_fails : (tells : Type 0) (text : Bool) (r s t : Option (List ℕ)) (old mid new : TransferValue) (after : Bool) (count : ℕ) (piece : List ℕ) (fault : FtpError) (far : SoFar tells text r s old mid after count) → Consumes s t piece → HinderedPiece tells text far.copied.given piece mid new count fault → GaveUp tells text r t old new fault
piece_fails tells text r s t old mid new after count piece fault far taken hindered =
    let given : List ℕ = far.copied.given in
    let before : List ℕ = wire_data text given in
    record {
      given = given ++ piece;
      taken = Consumes-trans r s t given piece far.copied.taken taken;
      wrote = inr (front_as tells (before ++ hindered.added) (wire_data text (given ++ piece)) old new (sym hindered.adds.whole) (front_more tells before hindered.added old mid new far.copied.wrote hindered.wrote), hinders_since tells before old mid new fault far.copied.wrote hindered.cause);
      too_large = λ is. subst (λ n. 9223372036854775807 < n) (ap (λ n. n + length hindered.added) far.copied.counted ∙ sym (length-append before hindered.added) ∙ sym (ap length hindered.adds.whole)) (hindered.too_large is);
    }

-- what a piece of a text adds, and of other bytes
pub adds_text : (before piece old new : List ℕ) (adds : AddsPiece before piece old new) → old ≡ [] → Adds true before piece new
adds_text before piece old new adds empty =
    let all : new ≡ adds.added = added-all before piece old new adds empty in
    record { whole = adds.whole ∙ ap (λ l. crlf before ++ l) (sym all); longer = rw all (added-length before piece old new adds) }

pub adds_bytes : (before piece : List ℕ) → Adds false before piece piece
adds_bytes before piece = record { whole = refl; longer = omega arith }

-- what a piece adds, as it is
abbrev added_of : Bool → List ℕ → List ℕ → List ℕ
added_of true before piece = converted (ends_in_return before) piece
added_of false before piece = piece

adds_always : (text : Bool) (before piece : List ℕ) → Adds text before piece (added_of text before piece)
adds_always true before piece = record { whole = crlf-append before piece; longer = length-converted (ends_in_return before) piece }
adds_always false before piece = adds_bytes before piece

-- a piece for which there is no memory
pub no_memory : (tells : Type 0) (text : Bool) (before piece : List ℕ) (after : Bool) (t : TransferValue) (count : ℕ) (result : Result ℕ FtpError) → IsErr result → IsErrAnd result (λ fault. fault ≡ OutOfMemory) → SendsPiece tells text before piece after t t count result
no_memory tells text before piece after t count (Ok size) fails is = let clash : false ≡ true = fails in cc
no_memory tells text before piece after t count (Err fault) fails is = record {
  added = added_of text before piece;
  adds = adds_always text before piece;
  wrote = front_none tells (added_of text before piece) t;
  cause = inl is;
  too_large = memory_is_other fault (count + length (added_of text before piece)) is;
}

-- a piece of a text goes out as these bytes
pub text_sent : (tells : Type 0) (before piece bytes : List ℕ) (after : Bool) (old new : TransferValue) (count : ℕ) (result : Result ℕ FtpError) → Adds true before piece bytes → after ≡ ends_in_return (before ++ piece) → SendsAll tells bytes old new count result → SendsPiece tells true before piece after old new count result
text_sent tells before piece bytes after old new count (Ok size) adds last (wrote, counts, within) = record { added = bytes; adds = adds; wrote = wrote; counts = counts; within = within; last = λ is. last }
text_sent tells before piece bytes after old new count (Err fault) adds last (wrote, cause, too_large) = record { added = bytes; adds = adds; wrote = wrote; cause = cause; too_large = too_large }

-- a copy that gives up answers that
pub gives_up_as : (tells : Type 0) (text : Bool) (r s : Option (List ℕ)) (old new : TransferValue) (fault : FtpError) (result : Result ℕ FtpError) → IsErr result → IsErrAnd result (λ f. f ≡ fault) → GaveUp tells text r s old new fault → Copies tells text r s old new result
gives_up_as tells text r s old new fault (Ok count) fails is gave = let clash : false ≡ true = fails in cc
gives_up_as tells text r s old new fault (Err other) fails is gave = subst (λ f. GaveUp tells text r s old new f) (sym is) gave

-- a piece that isn't empty
pub length_some : (bytes : List ℕ) → false ≡ (length bytes == 0) → 0 < length bytes
length_some [] some = let clash : false ≡ true = some in cc
length_some (byte ∷ bytes) some = omega arith
