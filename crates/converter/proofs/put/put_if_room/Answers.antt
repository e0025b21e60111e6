-- In a part of the buffer that is as long as the piece.
use Rattle.items.proofs.PiecesPut.{piece_put}
use Rattle.converter.proofs.put.put_if_room.Goals as goal

pub returns-then-at-piece : goal.returns-then-at-piece
returns-then-at-piece c room = piece_put c.args.buffer.now c.args.at c.args.piece _ c.put.ensures room
