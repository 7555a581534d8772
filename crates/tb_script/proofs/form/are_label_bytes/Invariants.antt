use Rattle.std.proofs.Common.{◌≡◌, drop}
use Rattle.std.specs.List.{list_all}
use Rattle.tb_script.specs.Forms.{is_label_byte}
use Rattle.tb_script.proofs.form.are_label_bytes.Given as goal

-- the bytes passed are all of a name
abbrev pub invariant-bytes : goal.invariant-bytes
invariant-bytes l = list_all is_label_byte (drop l.byte-index l.bytes) ≡ list_all is_label_byte l.bytes
