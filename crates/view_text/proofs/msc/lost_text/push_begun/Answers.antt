use Rattle.std.proofs.Common.{◌∷◌, ◌++◌, codes}
use Rattle.std.specs.Fmt.{decimal}
use Rattle.std.specs.String.{string_bytes}
use Rattle.view_text.proofs.Pushed.{grown, pushed}
use Rattle.view_text.proofs.msc.lost_text.push_begun.Goals as goal

pub returns : goal.returns
returns c =
    let text = string_bytes c.args.text.now in
    let begin = 10 ∷ codes "text 'at " in
    let number = decimal c.args.at in
    pushed c.push_str-2.result _ text (begin ++ number) (codes ": env: out ")
    (grown text begin number c.in_ok-push_str.ensures.bytes c.in_ok-push_number.ensures) c.push_str-2.ensures.bytes
