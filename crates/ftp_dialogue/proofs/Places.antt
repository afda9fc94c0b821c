-- Places of a tree: the tree itself is one, and a place of a place is a place.
use Rattle.std.proofs.Common.{◌≡◌, ◌⊎◌, true, false, cond, List, [], ◌++◌, Ok, Err, inl, inr, refl, ap, subst, sym}
use Rattle.ftp_base.specs.declared.status.Status.{Status}
use Rattle.ftp_base.specs.declared.types.reply.Response.{Response}
use Rattle.ftp_base.specs.declared.types.fault.FtpError.TheVariants.{UnexpectedResponse}
use Rattle.ftp_control.specs.Answer.{expected_reply, is_among}
use Rattle.ftp_dialogue.specs.declared.model.NetOutcome.{NetOutcome}
use Rattle.ftp_dialogue.specs.Dialogue.{Tree, Say, Hear, Look, Ask, Build, Secure, Move, Leaf}
use Rattle.ftp_dialogue.specs.Within.{MayHear, Within}

-- the tree itself
pub here : (tree : Tree) → Within [] tree tree
here (Say (Ok line) next) = inl (refl, refl)
here (Say (Err cause) next) = (refl, refl)
here (Hear codes next) = inl (refl, refl)
here (Look end next) = inl (refl, refl)
here (Ask request next) = inl (refl, refl)
here (Build address next) = inl (refl, refl)
here (Secure next) = inl (refl, refl)
here (Move movement next) = inl (refl, refl)
here (Leaf answer state) = (refl, refl)

-- a place of the tree that this is
at_once : (first second : List NetOutcome) (place mid tree : Tree) → first ≡ [] → mid ≡ tree → Within second place mid → Within (first ++ second) place tree
at_once first second place mid tree none is within =
    let P : Tree → Type 0 = λ t. Within second place t in
    let Q : List NetOutcome → Type 0 = λ f. Within (f ++ second) place tree in
    subst Q (sym none) (subst P is within)

-- a place of a line that is begun
once_begun : (first second : List NetOutcome) (place : Tree) (next : Tree) → first ≡ [] → Within second place (Say (Ok []) next) → (((first ++ second) ≡ []) × (place ≡ Say (Ok []) next)) ⊎ Within (first ++ second) place next
once_begun first second place next none within =
    let Q : List NetOutcome → Type 0 = λ f. (((f ++ second) ≡ []) × (place ≡ Say (Ok []) next)) ⊎ Within (f ++ second) place next in
    subst Q (sym none) (go within)
  where
    go : Within second place (Say (Ok []) next) → ((second ≡ []) × (place ≡ Say (Ok []) next)) ⊎ Within second place next
    go (inl is) = inl is
    go (inr is) = is

-- a place of a place
pub within_on : (first second : List NetOutcome) (place mid tree : Tree) → Within second place mid → Within first mid tree → Within (first ++ second) place tree
within_on first second place mid (Say (Ok line) next) last (inl is) = at_once first second place mid (Say (Ok line) next) is.0 is.1 last
within_on first second place mid (Say (Ok line) next) last (inr (inl begun)) =
    let P : Tree → Type 0 = λ t. Within second place t in
    inr (once_begun first second place next begun.0 (subst P begun.1 last))
within_on first second place mid (Say (Ok line) next) last (inr (inr after)) = inr (inr (within_on first second place mid next last after))
within_on first second place mid (Say (Err cause) next) last is = at_once first second place mid (Say (Err cause) next) is.0 is.1 last
within_on first second place mid (Hear codes next) last (inl is) = at_once first second place mid (Hear codes next) is.0 is.1 last
within_on first second place mid (Hear codes next) last (inr (heard, may, after)) = inr (heard, may, within_on first second place mid (next heard) last after)
within_on first second place mid (Look end next) last (inl is) = at_once first second place mid (Look end next) is.0 is.1 last
within_on first second place mid (Look end next) last (inr (address, after)) = inr (address, within_on first second place mid (next address) last after)
within_on first second place mid (Ask request next) last (inl is) = at_once first second place mid (Ask request next) is.0 is.1 last
within_on first second place mid (Ask request next) last (inr (answer, later, split, after)) =
    inr (answer, later ++ second, ap (λ l. l ++ second) split, within_on later second place mid (next answer) last after)
within_on first second place mid (Build address next) last (inl is) = at_once first second place mid (Build address next) is.0 is.1 last
within_on first second place mid (Build address next) last (inr (fault, later, split, after)) =
    inr (fault, later ++ second, ap (λ l. l ++ second) split, within_on later second place mid (next fault) last after)
within_on first second place mid (Secure next) last (inl is) = at_once first second place mid (Secure next) is.0 is.1 last
within_on first second place mid (Secure next) last (inr (fault, later, split, after)) =
    inr (fault, later ++ second, ap (λ l. l ++ second) split, within_on later second place mid (next fault) last after)
within_on first second place mid (Move movement next) last (inl is) = at_once first second place mid (Move movement next) is.0 is.1 last
within_on first second place mid (Move movement next) last (inr (came, later, split, after)) =
    inr (came, later ++ second, ap (λ l. l ++ second) split, within_on later second place mid (next came) last after)
within_on first second place mid (Leaf answer state) last is = at_once first second place mid (Leaf answer state) is.0 is.1 last

-- a reply may be heard, of an expected status or another
pub reply_may : (statuses : List Status) (reply : Response) → MayHear (expected_reply statuses reply)
reply_may statuses reply = elim (is_among statuses reply.status) as (λ among. MayHear (cond among (Ok reply) (Err (UnexpectedResponse reply)))) [
  | true ↦ tt
  | false ↦ tt
]
