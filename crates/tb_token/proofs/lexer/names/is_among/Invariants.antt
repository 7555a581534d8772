use Rattle.std.proofs.Common.{◌≡◌, drop, map}
use Rattle.std.specs.List.{list_any}
use Rattle.std.specs.Str.{bytes_eq}
use Rattle.tb_token.proofs.lexer.names.is_among.Given as goal

-- none of the keywords passed is the name
abbrev pub invariant-keywords : goal.invariant-keywords
invariant-keywords l =
    list_any (bytes_eq l.name) (map (λ keyword. keyword.now) (drop l.keyword-index l.keywords)) ≡ list_any (bytes_eq l.name) (map (λ keyword. keyword.now) l.keywords)
