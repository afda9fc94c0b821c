use Rattle.std.proofs.Common.{rules, ◌≡◌, ◌∙◌, refl, sym, ap, ℕ, Bool, true, List, ◌&&◌, nat_eq, Option}
use Rattle.std.specs.Bool.{Decides}
use Rattle.std.specs.Cmp.{unsigned_Decides}
use Rattle.std.specs.Cmp.Lexicographic.{pointwise}
use Rattle.std.specs.Option.{option_eq}
use Rattle.std.proofs.lemmas.Slice.Eq.{slice_eq-Decides}
use Rattle.std.specs.declared.net.socket_addr.SocketAddr.{SocketAddr}
use Rattle.std.specs.contracts.net.socket_addr.SocketAddrPartialEq.TheImpl.{ghosts as addresses}
use Rattle.ftp_base.specs.declared.command.Command.{Command}
use Rattle.ftp_base.specs.declared.command.ProtectionLevel.{ProtectionLevel}
use Rattle.ftp_base.specs.declared.types.file_type.FileType.{FileType}
use Rattle.ftp_base.specs.contracts.command.Command.{the_type, the_parts, as_values}
use Rattle.ftp_base.specs.contracts.command.CommandPartialEq.TheImpl.{ghosts as commands}
use Rattle.ftp_base.specs.contracts.command.ProtectionLevelPartialEq.TheImpl.{ghosts as levels}
use Rattle.ftp_base.specs.contracts.types.file_type.FileTypePartialEq.TheImpl.{ghosts as types}
use denote.Enum.Declared.{intoss}
use denote.Enum.Compared.{Each}
use Rattle.ftp_base.proofs.EnumLemmas.{by-Decides, no_fields, one_field, two_fields}
use Rattle.ftp_base.proofs.laws.equal_commands.Goals as goal

-- `==` of two texts
abbrev text_eq : List ℕ → List ℕ → Bool
text_eq = pointwise nat_eq

text_same : (a b : List ℕ) → Decides (text_eq a b) (a ≡ b)
text_same a b = slice_eq-Decides unsigned_Decides a b _ refl

option_same : (a b : Option (List ℕ)) → Decides (option_eq text_eq a b) (a ≡ b)
option_same a b = search rules

address_same : (a b : SocketAddr) → Decides (addresses.eq a b) (a ≡ b)
address_same a b = search rules

level_same : (a b : ProtectionLevel) → Decides (levels.eq a b) (a ≡ b)
level_same a b = search rules

type_same : (a b : FileType) → Decides (types.eq a b) (a ≡ b)
type_same a b = search rules

-- `==` of the fields of each variant
abbrev each : Each Bool the_parts
each =
    ((λ _ _. true), ((λ a b. text_eq a.0 b.0), ((λ _ _. true), ((λ _ _. true), ((λ _ _. true), ((λ a b. text_eq a.0 b.0), ((λ a b. text_eq a.0 b.0), ((λ a b. addresses.eq a.0 b.0), ((λ _ _. true), ((λ _ _. true), ((λ a b. option_eq text_eq a.0 b.0), ((λ a b. text_eq a.0 b.0), ((λ a b. text_eq a.0 b.0 && text_eq a.1.0 b.1.0), ((λ a b. text_eq a.0 b.0), ((λ a b. option_eq text_eq a.0 b.0), ((λ a b. option_eq text_eq a.0 b.0), ((λ a b. option_eq text_eq a.0 b.0), ((λ _ _. true), ((λ a b. text_eq a.0 b.0 && option_eq text_eq a.1.0 b.1.0), ((λ a b. text_eq a.0 b.0), ((λ _ _. true), ((λ a b. nat_eq a.0 b.0), ((λ a b. text_eq a.0 b.0), ((λ a b. levels.eq a.0 b.0), ((λ _ _. true), ((λ _ _. true), ((λ a b. text_eq a.0 b.0), ((λ a b. text_eq a.0 b.0), ((λ a b. nat_eq a.0 b.0), ((λ a b. text_eq a.0 b.0), ((λ a b. text_eq a.0 b.0), ((λ a b. text_eq a.0 b.0), ((λ a b. text_eq a.0 b.0), ((λ a b. text_eq a.0 b.0), ((λ a b. types.eq a.0 b.0), ((λ a b. text_eq a.0 b.0), ((λ a b. text_eq a.0 b.0), tt)))))))))))))))))))))))))))))))))))))

command_same : (a b : Command) → Decides (commands.eq a b) (a ≡ b)
command_same a b =
    let same : Decides (commands.eq a b) (as_values a ≡ as_values b) = by-Decides the_parts each
    (no_fields, (one_field text_eq text_same, (no_fields, (no_fields, (no_fields, (one_field text_eq text_same, (one_field text_eq text_same, (one_field addresses.eq address_same, (no_fields, (no_fields, (one_field (option_eq text_eq) option_same, (one_field text_eq text_same, (two_fields text_eq text_eq text_same text_same, (one_field text_eq text_same, (one_field (option_eq text_eq) option_same, (one_field (option_eq text_eq) option_same, (one_field (option_eq text_eq) option_same, (no_fields, (two_fields text_eq (option_eq text_eq) text_same option_same, (one_field text_eq text_same, (no_fields, (one_field nat_eq unsigned_Decides, (one_field text_eq text_same, (one_field levels.eq level_same, (no_fields, (no_fields, (one_field text_eq text_same, (one_field text_eq text_same, (one_field nat_eq unsigned_Decides, (one_field text_eq text_same, (one_field text_eq text_same, (one_field text_eq text_same, (one_field text_eq text_same, (one_field text_eq text_same, (one_field types.eq type_same, (one_field text_eq text_same, (one_field text_eq text_same, tt))))))))))))))))))))))))))))))))))))) (as_values a) (as_values b) in
    (λ t. the_type.to_one a b (ap (intoss the_parts) (same.0 t)), λ e. same.1 (ap as_values e))

pub returns : goal.returns
returns c = (λ t. (command_same c.args.one.now c.args.other.now).0 (sym c.eq.ensures ∙ t), λ e. c.eq.ensures ∙ (command_same c.args.one.now c.args.other.now).1 e)
