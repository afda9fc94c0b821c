-- What lenient replies have beside the grammar: a dash that ends a reply of 211, and the list of features behind it
-- (RFC 2389, section 3.2). Strictly a reply ends alike whatever is asked of it, and none of this has a say.
use Rattle.std.specs.Prelude.{ℕ, Bool, true, false, codes, nat_eq, List, [], ◌∷◌, if◌then◌else◌}
use Rattle.std.specs.List.{starts_with}
use Rattle.ftp_control.specs.declared.control.form.ReplyForm.{ReplyForm}
use Rattle.ftp_control.specs.declared.control.form.ReplyForm.TheVariants.{Plain, System, Features}
use Rattle.ftp_base.specs.Features.{is_last}
use Rattle.ftp_control.specs.declared.plain.Found.{Found}
use Rattle.ftp_control.specs.declared.plain.Found.TheVariants.{Reply, Unfinished}
use Rattle.ftp_control.specs.Found.{after_line}

-- a dash ends a reply of 211, be it a system status or the first line of the answer to FEAT
abbrev pub by_dash : ReplyForm → Bool
by_dash Plain = false
by_dash System = true
by_dash Features = true

-- a reply that is followed by a list of features: RFC 2389, section 3.2
abbrev pub lists : ReplyForm → Bool
lists Plain = false
lists System = false
lists Features = true

-- a line that ends a reply and opens the list
abbrev pub opens_list : List ℕ → Bool
opens_list line = starts_with nat_eq line (codes "211-")

-- the lines of a list of features: those up to and with the first that begins "211 ", or all where the input has ended
abbrev pub to_list_end : Bool → List (List ℕ) → Found
to_list_end ended [] = if ended then Reply [] 211 else Unfinished
to_list_end ended (line ∷ lines) = if is_last line then Reply line 211 else after_line line (to_list_end ended lines)
