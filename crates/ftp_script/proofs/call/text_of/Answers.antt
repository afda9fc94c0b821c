use Rattle.std.proofs.Common.{Some, ◌∙◌, sym, ap}
use Rattle.ftp_script.proofs.Escaping.{ascii_text, ascii_utf8}
use Rattle.ftp_script.proofs.call.text_of.Goals as goal

pub unreachable-requires : goal.unreachable-requires
unreachable-requires c =
    let same = c.as_slice.ensures.value in
    let h = c.in-Err.ensures.succeeds (ascii_utf8 _ (rw (← same) (sym (c.if-not-is_ascii.ensures)))) in cc

pub returns : goal.returns
returns c =
    let same = c.as_slice.ensures.value ∙ c.into_vec-bytes.ensures in
    let text = c.from_string.ensures ∙ ap (λ v. v.items) c.in-Ok.ensures.ok in
    ap Some (text ∙ sym c.as_slice.ensures.value) ∙ ascii_text _ _ _ (sym c.in_ok-bytes.ensures ∙ c.in-Some.is) same (sym c.if-not-is_ascii.ensures)
