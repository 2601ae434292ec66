-- Two answers of `decode` that meet its promise are equal.
use Rattle.std.proofs.Common.{◌≡◌, Option, Some, None, refl, sym, ap, ◌∙◌}
use Rattle.codes.specs.declared.command.Command.{Command}
use Rattle.codes.specs.Decoded.{Decoded, Defined, Undefined, decoded}

taken : Decoded → Option Command
taken (Defined command) = Some command
taken Undefined = None

taken-is : (x : Option Command) → x ≡ taken (decoded x)
unfolding taken
taken-is (Some command) = refl
taken-is None = refl

pub decode-result-settled : {x y : Option Command} {o : Decoded} → decoded x ≡ o → decoded y ≡ o → x ≡ y
decode-result-settled {x} {y} h k = taken-is x ∙ ap taken (h ∙ sym k) ∙ sym (taken-is y)
