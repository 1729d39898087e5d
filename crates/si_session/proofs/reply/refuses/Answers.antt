use Rattle.std.proofs.Common.{inl, inr}
use Rattle.si_session.proofs.ReplyTexts.{file_refuses, line_refuses, fetches_refuses}
use Rattle.si_session.proofs.reply.refuses.Goals as goal

pub returns-in-File : goal.returns-in-File
returns-in-File c = elim c.in-File.is [
  | inl h ↦ file_refuses c.args.reply h.0 h.1 h.2
  | inr rest ↦ elim rest [
    | inl h ↦ line_refuses c.args.reply h.0 h.1 h.2 h.3
    | inr e ↦ fetches_refuses c.args.reply e
  ]
]
